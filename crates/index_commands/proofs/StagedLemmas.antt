-- What the index says of a command that is staged on it is so on each chain that it stands for.
use Rattle.std.proofs.Common.{ℕ, arith}
use Rattle.chain_state.specs.Chain.{Indexed}
use Rattle.index_commands.specs.ByIndex.{StagesCommandOn}
use Rattle.index_commands.specs.GivenUp.{GivesUp}
use Rattle.index_commands.specs.Stages.{StagesCommand, Fits, IsFullWith}
use Rattle.index_commands.specs.Views.{command_of, IsWithinLimits}
use Rattle.chain_commands.specs.Event.{Command}
use Rattle.index_commands.specs.declared.command.ChainCommand.{ChainCommand}
use Rattle.index_commands.specs.declared.command.ChainCommand.TheVariants.{Connect as a_block, Disconnect as a_hash}
use Rattle.index_commands.specs.declared.staged.StagedCommand.TheVariants as staged
use Rattle.index_commands.specs.declared.staged.CommandRefusal.TheVariants as refused
use Rattle.index_commands.specs.declared.staged.CommandOutcome.{CommandOutcome}
use Rattle.index_commands.specs.declared.staged.CommandOutcome.TheVariants as outcome
use Rattle.index_commands.proofs.StageLemmas.{stages_bytes}
use Rattle.index_commands.proofs.BackLemmas.{stages_hash}
use Rattle.chain_state.specs.declared.stage.StageOutcome.TheVariants as block
use Rattle.chain_state.specs.declared.back.BackOutcome.TheVariants as back

module _ (area most : ℕ) (index : Indexed) where
  pub stages_command : (command : ChainCommand) → IsWithinLimits command → (result : CommandOutcome) → StagesCommandOn (IsFullWith area most (command_of command)) index command result
      → Fits area most (command_of command) result → StagesCommand area most index command result
  stages_command (a_block bytes) short (outcome.Staged (staged.Connect s)) on fits = λ chain stands.
      stages_bytes (record { area = area; most = most; index = index; chain = chain; bytes = bytes.now; stands = stands }) short (block.Staged s) on (λ full. omega (arith, full, fits))
  stages_command (a_block bytes) short (outcome.Staged (staged.Disconnect s)) on fits = absurd on
  stages_command (a_block bytes) short (outcome.Refused same (refused.Connect refusal)) on fits = λ chain stands.
      stages_bytes (record { area = area; most = most; index = index; chain = chain; bytes = bytes.now; stands = stands }) short (block.Refused same refusal) on tt
  stages_command (a_block bytes) short (outcome.Refused same (refused.Disconnect refusal)) on fits = absurd on
  stages_command (a_block bytes) short (outcome.NoMemory same) on fits = λ chain stands.
      stages_bytes (record { area = area; most = most; index = index; chain = chain; bytes = bytes.now; stands = stands }) short (block.NoMemory same) on tt
  stages_command (a_hash hash) within (outcome.Staged (staged.Connect s)) on fits = absurd on
  stages_command (a_hash hash) within (outcome.Staged (staged.Disconnect s)) on fits = λ chain stands.
      stages_hash (record { area = area; most = most; index = index; chain = chain; hash = hash; stands = stands }) (back.StagedBack s) on (λ full. omega (arith, full, fits))
  stages_command (a_hash hash) within (outcome.Refused same (refused.Connect refusal)) on fits = absurd on
  stages_command (a_hash hash) within (outcome.Refused same (refused.Disconnect refusal)) on fits = λ chain stands.
      stages_hash (record { area = area; most = most; index = index; chain = chain; hash = hash; stands = stands }) (back.Refused same refusal) on tt
  stages_command (a_hash hash) within (outcome.NoMemory same) on fits = λ chain stands.
      stages_hash (record { area = area; most = most; index = index; chain = chain; hash = hash; stands = stands }) (back.NoMemory same) on tt

-- what was given up isn't staged
pub given_up_fits : (area most : ℕ) (command : Command) (of result : CommandOutcome) → GivesUp of result → Fits area most command result
given_up_fits area most command (outcome.Staged s) result gone = rw gone.is tt
given_up_fits area most command (outcome.Refused same refusal) result gone = rw gone tt
given_up_fits area most command (outcome.NoMemory same) result gone = rw gone tt

pub fits_so : (area most : ℕ) (command : Command) (result : CommandOutcome) → (IsFullWith area most command → ⊥) → Fits area most command result
fits_so area most command (outcome.Staged s) fits = omega (arith, fits)
fits_so area most command (outcome.Refused same refusal) fits = tt
fits_so area most command (outcome.NoMemory same) fits = tt
