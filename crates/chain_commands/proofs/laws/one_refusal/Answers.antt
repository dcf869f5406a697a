use Rattle.chain_commands.specs.Event.{Connect, Disconnect}
use Rattle.chain_commands.specs.RunState.{IsFull, chain_of}
use Rattle.chain_commands.specs.Connecting.{Holds, order_of}
use Rattle.chain_commands.specs.Disconnecting.{HoldsBack, back_order}
use Rattle.chain_commands.specs.Saving.{HoldsSave, save_order}
use Rattle.chain_commands.proofs.RefusalLemmas.{one_first}
use Rattle.chain_commands.proofs.CommandLemmas.{one_at_place, one_at_place_back}
use Rattle.chain_commands.proofs.SavingLemmas.{one_at_place_save}
use Rattle.chain_commands.proofs.laws.one_refusal.Goals as goal

pub returns-clause-connect : goal.returns-clause-connect
returns-clause-connect c = λ run bytes refusal other first second.
    let full = IsFull run (Connect bytes) in
    one_first (Holds full (chain_of run) bytes) order_of (one_at_place full (chain_of run) bytes) refusal other first second

pub returns-clause-disconnect : goal.returns-clause-disconnect
returns-clause-disconnect c = λ run hash refusal other first second.
    let full = IsFull run (Disconnect hash) in
    one_first (HoldsBack full (chain_of run) hash) back_order (one_at_place_back full (chain_of run) hash) refusal other first second

pub returns-clause-save : goal.returns-clause-save
returns-clause-save c = λ run refusal other first second. one_first (HoldsSave run) save_order (one_at_place_save run) refusal other first second
