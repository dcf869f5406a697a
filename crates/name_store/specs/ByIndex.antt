-- What a command comes to by the index alone, whatever chain it stands for: its coins are the live coins, its histories the entries.
use Rattle.std.specs.Prelude.{◌≡◌}
use Rattle.nmc_base.specs.declared.chain_ends.Tip.{Tip}
use Rattle.chain_state.specs.Chain.{Indexed}
use Rattle.chain_commands.specs.Event.{Command}
use Rattle.index_commands.specs.ByIndex.{StagesCommandOn}
use Rattle.index_commands.specs.Taking.{TakesCommand}
use Rattle.index_commands.specs.Views.{command_of}
use Rattle.index_commands.specs.declared.command.ChainCommand.{ChainCommand}
use Rattle.index_commands.specs.declared.staged.CommandRefusal.{CommandRefusal}
use Rattle.index_commands.specs.declared.staged.CommandOutcome.TheVariants as staging
use Rattle.index_commands.specs.declared.staged.StagedCommand.{StagedCommand}
use Rattle.name_store.specs.declared.store.Outcome.{Outcome}
use Rattle.name_store.specs.declared.store.Outcome.TheVariants.{Done, Refused, NoMemory, Faulted}

-- the index has taken the command, and its tip is told
pub record HasTaken (old : Indexed) (command : Command) (new : Indexed) (tip : Tip) : Type 0 where
  pub takes : TakesCommand old command new
  pub tip_is : tip ≡ new.tip

-- what isn't done is what staging the command comes to; and where the disk failed it was staged
abbrev pub ExecutesOn : (full : Type 0) → Indexed → ChainCommand → Outcome Tip CommandRefusal → Type 0
ExecutesOn full old command (Done store tip) = HasTaken old (command_of command) store.index tip
ExecutesOn full old command (Refused store refusal) = StagesCommandOn full old command (staging.Refused store.index refusal)
ExecutesOn full old command (NoMemory store) = StagesCommandOn full old command (staging.NoMemory store.index)
ExecutesOn full old command Faulted = (staged : StagedCommand) × StagesCommandOn full old command (staging.Staged staged)
