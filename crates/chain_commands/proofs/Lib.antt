pub mod RefusalLemmas
pub mod CommandLemmas
pub mod ConnectRefusals
pub mod DisconnectRefusals
pub mod SurvivorLemmas
pub mod SavingLemmas
