-- What a step leaves of the state, and what a run leaves of it.
use Rattle.std.specs.Prelude.{◌≡◌, ◌≢◌, ℕ, suc, ◌+◌, ◌<◌, List, [], ◌∷◌, ◌++◌, ◌==◌, if◌then◌else◌}
use Rattle.undo_records.specs.declared.version.Version.TheVariants.{Two}
use Rattle.chain_commands.specs.Event.{Command, Event, Do, Ask, Save}
use Rattle.chain_commands.specs.RunState.{RunState, saved_chain, accepted, all_accepted}
use Rattle.chain_commands.specs.Saving.{IsTextOf, IsSaved}
use Rattle.feed_frames.specs.Replies.{Reply}

-- ---- a step

-- what an event leaves that is done
abbrev pub IsDoneBy : RunState → Event → RunState → Type 0
IsDoneBy old (Do command) new = new ≡ accepted old command
IsDoneBy old (Ask carrier message) new = new ≡ old
IsDoneBy old Save new = IsSaved old new

-- it is done where its reply has code 0, and else the state stays
pub record Leaves (old : RunState) (event : Event) (reply : Reply) (new : RunState) : Type 0 where
  pub done : reply.code ≡ 0 → IsDoneBy old event new
  pub undone : reply.code ≢ 0 → new ≡ old

-- ---- a run

-- how many saves have a reply of code 0
abbrev pub accepted_saves : List Event → List Reply → ℕ
accepted_saves [] replies = 0
accepted_saves (event ∷ events) [] = 0
accepted_saves (Do command ∷ events) (reply ∷ replies) = accepted_saves events replies
accepted_saves (Ask carrier message ∷ events) (reply ∷ replies) = accepted_saves events replies
accepted_saves (Save ∷ events) (reply ∷ replies) =
    if reply.code == 0 then suc (accepted_saves events replies) else accepted_saves events replies

-- The base, its host and the start list stay, and the commands are the old ones and these, whether saved or since. Where no save was
-- accepted, the state is the old one with these commands; else the text is that of what is saved.
pub record IsBehind (old : RunState) (commands : List Command) (saves : ℕ) (new : RunState) : Type 0 where
  pub base_is : new.base ≡ old.base
  pub host_is : new.host ≡ old.host
  pub start_is : new.start ≡ old.start
  pub commands_are : new.since ++ new.saved ≡ (all_accepted old commands).since ++ old.saved
  pub selections_are : new.selections ≡ old.selections + saves
  pub unsaved : saves ≡ 0 → new ≡ all_accepted old commands
  pub text_is : 0 < saves → IsTextOf Two (saved_chain new) new.text
