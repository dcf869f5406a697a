-- Where the commands of an area are damaged.
use Rattle.std.specs.Prelude.{◌≡◌, ℕ, List}
use Rattle.gate_journal.specs.Gate.{IsOpen}
use Rattle.chain_state.specs.Chain.{Indexed}
use Rattle.chain_commands.specs.Event.{Command}
use Rattle.index_commands.specs.Commands.{Origin, AreRead, IsNext, gate_behind}

-- Behind the records of these commands, which lead from the first index to this one, the gate is open, and no record of a command
-- that this index takes stands there.
pub record HasBadRecord (first : Origin) (limit : ℕ) (area : List ℕ) (at : ℕ) : Type 0 where
  pub commands : List Command
  pub index : Indexed
  pub read : AreRead first limit area commands index
  pub at_is : at ≡ gate_behind first.front commands
  pub is_open : IsOpen area at
  pub no_next : (command : Command) → IsNext first.front limit area commands index command → ⊥
