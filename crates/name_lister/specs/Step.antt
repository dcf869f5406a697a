-- The machine with listing sessions and a save in slices: its steps and its runs.
use Rattle.std.specs.Prelude.{◌≡◌, ◌⊎◌, ◌<◌, ℕ, List, [], ◌∷◌, Option, Some, None}
use Rattle.bridge_core.specs.Bridge.{IsValidEvent}
use Rattle.chain_commands.specs.Event.{Event, Do, Ask, Save}
use Rattle.chain_commands.specs.RunState.{RunState, chain_of}
use Rattle.chain_commands.specs.Saving.{HasLongText, longest_image, most_selections}
use Rattle.feed_frames.specs.Replies.{Reply}
use Rattle.listing_sessions.specs.Sessions.{Sessions, none_open, Opens, Pages, Closes}
use Rattle.bridge_core.specs.Leaving.{IsDoneBy}
use Rattle.bridge_core.specs.Step as machine
use Rattle.name_lister.specs.Event.{ListEvent, Plain, Open, Page, Close, Begin, Slice}
use Rattle.name_lister.specs.Saver.{Saver, Begins, Slices, Selects, IsTooLong, slice_size, running_reply}

-- what the machine knows, the listing sessions that are open, and the sliced save that runs, if one does
pub record ListState : Type 0 where
  pub run : RunState
  pub sessions : Sessions
  pub saver : Option Saver

-- no session is open yet, and no save runs
abbrev pub beginning : RunState → ListState
beginning run = record { run = run; sessions = none_open; saver = None }

-- ---- steps

-- while a sliced save runs, no other save is made
abbrev pub PlainStep : Option Saver → RunState → Event → Reply → RunState → Type 0
PlainStep None old event reply new = machine.Step old event reply new
PlainStep (Some saver) old (Do command) reply new = machine.Step old (Do command) reply new
PlainStep (Some saver) old (Ask carrier message) reply new = machine.Step old (Ask carrier message) reply new
PlainStep (Some saver) old Save reply new = (reply ≡ running_reply) × (new ≡ old)

-- the state and its save go on so, and the sessions so
pub record IsStep (Moves Lists : Type 0) : Type 0 where
  pub moves : Moves
  pub sessions : Lists

-- neither the state nor its save changes
abbrev pub StaysPut : ListState → ListState → Type 0
StaysPut old new = (new.run ≡ old.run) × (new.saver ≡ old.saver)

-- With pages of so many rows the machine may give this reply to the event and go on to the new state. A session is opened on the chain
-- as it is; no other event but its own pages and its close changes it.
abbrev pub ListStep : ℕ → ListState → ListEvent → Reply → ListState → Type 0
ListStep size old (Plain event) reply new = IsStep (PlainStep old.saver old.run event reply new.run × (new.saver ≡ old.saver)) (new.sessions ≡ old.sessions)
ListStep size old Open reply new = IsStep (StaysPut old new) (Opens (chain_of old.run) old.sessions reply new.sessions)
ListStep size old (Page number) reply new = IsStep (StaysPut old new) (Pages size number old.sessions reply new.sessions)
ListStep size old (Close number) reply new = IsStep (StaysPut old new) (Closes number old.sessions reply new.sessions)
ListStep size old Begin reply new = IsStep ((new.run ≡ old.run) × Begins old.run old.saver reply new.saver) (new.sessions ≡ old.sessions)
ListStep size old (Slice asked) reply new = IsStep (Slices (slice_size asked) old.run old.saver reply new.run new.saver) (new.sessions ≡ old.sessions)

-- one step after another
abbrev pub ListRun : ℕ → ListState → List ListEvent → List Reply → ListState → Type 0
ListRun size old [] [] new = new ≡ old
ListRun size old (event ∷ events) (reply ∷ replies) new = (mid : ListState) × ListStep size old event reply mid × ListRun size mid events replies new
ListRun size old [] (reply ∷ replies) new = ⊥
ListRun size old (event ∷ events) [] new = ⊥

-- ---- what a fault of the disk may cut short

-- a save has no refusal only where none runs in slices
abbrev pub IsAllowed : Option Saver → Event → Type 0
IsAllowed None event = Unit {0}
IsAllowed (Some saver) (Do command) = Unit {0}
IsAllowed (Some saver) (Ask carrier message) = Unit {0}
IsAllowed (Some saver) Save = ⊥

-- there is room for the save of the state's index
pub record MayBegin (state : ListState) : Type 0 where
  pub none_runs : state.saver ≡ None
  pub few : state.run.selections < most_selections
  pub short : ¬ (HasLongText longest_image (chain_of state.run))

-- a save runs, and isn't to be given up
pub record MaySlice (most : ℕ) (state : ListState) : Type 0 where
  pub saver : Saver
  pub one_runs : state.saver ≡ Some saver
  pub fits : ¬ (IsTooLong most state.run saver)

-- it is an event that the disk is asked for, and has no refusal
abbrev pub IsValidList : ListState → ListEvent → Type 0
IsValidList state (Plain event) = IsAllowed state.saver event × IsValidEvent state.run event
IsValidList state Open = ⊥
IsValidList state (Page number) = ⊥
IsValidList state (Close number) = ⊥
IsValidList state Begin = MayBegin state
IsValidList state (Slice asked) = MaySlice (slice_size asked) state

-- the slice would have selected its area
pub record IsSelectedBy (most : ℕ) (state : ListState) (kept : RunState) : Type 0 where
  pub saver : Saver
  pub one_runs : state.saver ≡ Some saver
  pub selects : Selects most state.run saver kept

-- what may stand on the disk besides behind a fault in its turn
abbrev pub MayLeave : ListState → ListEvent → RunState → Type 0
MayLeave state (Plain event) kept = IsDoneBy state.run event kept
MayLeave state Open kept = kept ≡ state.run
MayLeave state (Page number) kept = kept ≡ state.run
MayLeave state (Close number) kept = kept ≡ state.run
MayLeave state Begin kept = kept ≡ state.run
MayLeave state (Slice asked) kept = (kept ≡ state.run) ⊎ IsSelectedBy (slice_size asked) state kept
