-- What a bridge keeps, and what it stands for.
use Rattle.kept_answers.specs.Answering.{Answering, AreRight}
use Rattle.chain_commands.specs.RunState.{RunState, chain_of}
use Rattle.bridge_core.specs.Querying.{served_on, zone_on}
use Rattle.name_store.specs.Stored as stores
use Rattle.name_store.specs.Stored.{Stored}

-- the store, and the answers that are kept
pub record Bridged : Type 0 where
  pub store : Stored
  pub answers : Answering

abbrev pub bridged : Stored → Answering → Bridged
bridged store answers = record { store = store; answers = answers }

-- the store stands for the run state, and the answers that are kept are right where its chain is served in the zone of the store's host
pub record StandsFor (bridge : Bridged) (run : RunState) : Type 0 where
  pub store : stores.StandsFor bridge.store run
  pub right : AreRight (served_on (chain_of run)) (zone_on bridge.store.host (chain_of run)) bridge.answers
