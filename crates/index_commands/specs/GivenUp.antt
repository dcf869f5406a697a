-- What is left of an outcome where the area has no room for the command's record.
use Rattle.std.specs.Prelude.{◌≡◌}
use Rattle.chain_state.specs.Chain.{Indexed}
use Rattle.index_commands.specs.Staged.{AbandonsStaged, full_of}
use Rattle.index_commands.specs.declared.staged.StagedCommand.{StagedCommand}
use Rattle.index_commands.specs.declared.staged.CommandOutcome.{CommandOutcome}
use Rattle.index_commands.specs.declared.staged.CommandOutcome.TheVariants.{Staged, Refused, NoMemory}

-- the command is refused, and the index is as before it was staged
pub record IsGivenUp (s : StagedCommand) (result : CommandOutcome) : Type 0 where
  pub same : Indexed
  pub abandoned : AbandonsStaged s same
  pub is : result ≡ Refused same (full_of s)

abbrev pub GivesUp : CommandOutcome → CommandOutcome → Type 0
GivesUp (Staged s) result = IsGivenUp s result
GivesUp (Refused same refusal) result = result ≡ Refused same refusal
GivesUp (NoMemory same) result = result ≡ NoMemory same
