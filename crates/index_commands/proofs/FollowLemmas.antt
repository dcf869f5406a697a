-- A record that is followed, and one that isn't.
use Rattle.std.proofs.Common.{◌≡◌, ℕ, List, ◌∷◌, sym, subst, refl, arith}
use Rattle.std.specs.Prelude.{Result}
use Rattle.nmc_base.specs.declared.hashes.Hash32.{Hash32}
use Rattle.chain_state.specs.Chain.{Indexed}
use Rattle.chain_state.specs.declared.stage.Refusal.{Refusal}
use Rattle.chain_state.specs.declared.back.BackRefusal.{BackRefusal}
use Rattle.chain_commands.specs.Event.{Command, Connect, Disconnect}
use Rattle.index_commands.specs.Records.{record_of}
use Rattle.index_commands.specs.ByIndex.{RefusesBytes, RefusesHash, StagesCommandOn}
use Rattle.index_commands.specs.Stages.{IsFullWith}
use Rattle.index_commands.specs.Taking.{IsTakenBy}
use Rattle.index_commands.specs.Views.{command_of}
use Rattle.index_commands.specs.Records.{HasSize}
use Rattle.index_commands.specs.Following.{FollowsNot, FollowsRecord, Commits}
use Rattle.index_commands.specs.declared.following.Unfollowed.{Unfollowed}
use Rattle.index_commands.specs.declared.command.ChainCommand.{ChainCommand}
use Rattle.index_commands.specs.declared.command.ChainCommand.TheVariants.{Connect as a_block, Disconnect as a_hash}
use Rattle.index_commands.specs.declared.staged.CommandRefusal.TheVariants as refused
use Rattle.index_commands.specs.declared.staged.CommandOutcome.{CommandOutcome}
use Rattle.index_commands.specs.declared.staged.CommandOutcome.TheVariants as outcome
use Rattle.index_commands.proofs.ByIndexLemmas.{takes_command}
use Rattle.index_commands.proofs.SizeLemmas.{record_told, taken_size}
use Rattle.index_commands.proofs.TakenLemmas.{refused_not_taken, refused_back_not_taken}

-- a record is that of one command
follows_not : (index : Indexed) (command : Command) → (IsTakenBy index command → ⊥) → FollowsNot index (record_of command)
follows_not index command not = λ other is taken. not (subst (IsTakenBy index) (sym (record_told command other is)) taken)

refused_record : (full : Type 0) (index : Indexed) (bytes : List ℕ) (same : Indexed) → (full → ⊥) → (refusal : Refusal) → RefusesBytes full index bytes refusal same → FollowsNot index (1 ∷ bytes)
refused_record full index bytes same fits refusal refuses = follows_not index (Connect bytes) (λ taken. refused_not_taken full index bytes same fits refusal refuses taken.0)

refused_hash : (full : Type 0) (index : Indexed) (hash : Hash32) (same : Indexed) → (full → ⊥) → (refusal : BackRefusal) → RefusesHash full index hash refusal same → FollowsNot index (2 ∷ hash.0)
refused_hash full index hash same fits refusal refuses = follows_not index (Disconnect hash.0) (λ taken. refused_back_not_taken full index hash same fits refusal refuses taken.0)

-- an area without a limit has room
pub fits_all : (command : Command) → HasSize command → IsFullWith 0 18446744073709551615 command → ⊥
fits_all (Connect block) is full = omega (arith, is, full)
fits_all (Disconnect hash) is full = omega (arith, full)

-- ---- each outcome of staging

module _ (full : Type 0) (fits : full → ⊥) (index : Indexed) where
  pub followed : (command : ChainCommand) → HasSize (command_of command) → (of : CommandOutcome) (result : Result Indexed Unfollowed) → StagesCommandOn full index command of → Commits of result
      → FollowsRecord index (record_of (command_of command)) result
  followed command size (outcome.Staged s) result on done =
      rw done.is (record { command = command_of command; is = refl; takes = takes_command full index command size s done.new on done.done })
  followed (a_block bytes) size (outcome.Refused same (refused.Connect refusal)) result on is = rw is (refused_record full index bytes.now same fits refusal on)
  followed (a_block bytes) size (outcome.Refused same (refused.Disconnect refusal)) result on is = absurd on
  followed (a_hash hash) size (outcome.Refused same (refused.Connect refusal)) result on is = absurd on
  followed (a_hash hash) size (outcome.Refused same (refused.Disconnect refusal)) result on is = rw is (refused_hash full index hash same fits refusal on)
  followed command size (outcome.NoMemory same) result on is = rw is tt

-- bytes that are the record of no command
pub no_record : (index : Indexed) (record_is : List ℕ) → ((command : Command) → HasSize command → record_is ≡ record_of command → ⊥) → FollowsNot index record_is
no_record index record_is none = λ command is taken. none command (taken_size index command taken) is
