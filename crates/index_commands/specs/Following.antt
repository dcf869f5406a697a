-- What following a record answers.
use Rattle.std.specs.Prelude.{◌≡◌, ℕ, List, Result, Ok, Err, ⊤}
use Rattle.chain_state.specs.Chain.{Indexed}
use Rattle.chain_commands.specs.Event.{Command}
use Rattle.index_commands.specs.Records.{record_of}
use Rattle.index_commands.specs.Taking.{IsTakenBy, TakesCommand}
use Rattle.index_commands.specs.Staged.{CommitsStaged}
use Rattle.index_commands.specs.declared.staged.CommandOutcome.{CommandOutcome}
use Rattle.index_commands.specs.declared.staged.CommandOutcome.TheVariants.{Staged, Refused as refused, NoMemory as no_memory}
use Rattle.index_commands.specs.declared.following.Unfollowed.{Unfollowed}
use Rattle.index_commands.specs.declared.following.Unfollowed.TheVariants.{Refused, NoMemory}

-- the record is that of a command that the index takes, and this comes of it
pub record Follows (old : Indexed) (record_is : List ℕ) (new : Indexed) : Type 0 where
  pub command : Command
  pub is : record_is ≡ record_of command
  pub takes : TakesCommand old command new

-- it is that of no command that the index takes
abbrev pub FollowsNot : Indexed → List ℕ → Type 0
FollowsNot old record_is = (command : Command) → record_is ≡ record_of command → IsTakenBy old command → ⊥

abbrev pub FollowsRecord : Indexed → List ℕ → Result Indexed Unfollowed → Type 0
FollowsRecord old record_is (Ok new) = Follows old record_is new
FollowsRecord old record_is (Err Refused) = FollowsNot old record_is
FollowsRecord old record_is (Err NoMemory) = ⊤

-- ---- the commit of what was staged

-- it was done
pub record IsDone (Commits : Indexed → Type 0) (result : Result Indexed Unfollowed) : Type 0 where
  pub new : Indexed
  pub done : Commits new
  pub is : result ≡ Ok new

abbrev pub Commits : CommandOutcome → Result Indexed Unfollowed → Type 0
Commits (Staged s) result = IsDone (CommitsStaged s) result
Commits (refused same refusal) result = result ≡ Err Refused
Commits (no_memory same) result = result ≡ Err NoMemory
