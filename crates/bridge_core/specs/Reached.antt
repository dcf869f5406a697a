-- Where the frames of a run have led the bridge and its files.
use Rattle.std.specs.Prelude.{Bool, IsTrue, List}
use Rattle.disk_model.specs.DiskSeen.{DiskSeen}
use Rattle.feed_frames.specs.Frames.{Frame}
use Rattle.feed_frames.specs.Replies.{Reply}
use Rattle.chain_commands.specs.Event.{Event, event_frame}
use Rattle.chain_commands.specs.RunState.{RunState}
use Rattle.bridge_core.specs.Step.{Step, Run}
use Rattle.bridge_core.specs.Leaving.{IsDoneBy}
use Rattle.name_store.specs.Stored.{IsOn}
use Rattle.bridge_core.specs.Bridged.{Bridged, StandsFor}
use Rattle.bridge_core.specs.Bridge.{fault_reply, IsValidEvent, AnswersEvent}
use Rattle.bridge_core.specs.Runs as runs
use Rattle.bridge_core.specs.Runs.{Machine, Start, BeginsAt}
use Rattle.bridge_core.specs.declared.bridge.Turned.{Turned}
use Rattle.bridge_core.specs.declared.bridge.Turned.TheVariants.{On, Ended}

-- The machine whose states are run states, with a bridge that answers its events; an event without a refusal is a command or a save.
abbrev pub bridge_machine : {D : Type 0} (tells : Bool) (seen : D → DiskSeen) → Machine RunState Event Bridged D
bridge_machine tells seen = record {
  run_of = λ run. run;
  begin = λ run. run;
  frame_of = event_frame;
  Step = Step;
  Run = Run;
  IsValid = IsValidEvent;
  IsDone = IsDoneBy;
  store_of = λ bridge. bridge.store;
  StandsFor = StandsFor;
  tells = tells;
  seen = seen;
  Answers = λ old before event reply new after. AnswersEvent tells seen old before event reply (On new) after;
  Breaks = λ old before event after. AnswersEvent tells seen old before event fault_reply Ended after;
}

-- what a run begins at: the disk before its files were opened and behind that, and the bridge that was opened
pub record Beginning (D : Type 0) : Type 0 where
  pub before : DiskSeen
  pub opened : D
  pub bridge : Bridged

abbrev pub start_of : {D : Type 0} → Beginning D → Start Bridged D
start_of start = record { before = start.before; opened = start.opened; first = start.bridge }

-- the store that was opened stands for the run state, and so did the files as they were read
abbrev pub Begins : {D : Type 0} → Bool → Beginning D → RunState → Type 0
Begins tells start run = BeginsAt tells start.before start.bridge.store run

module _ {D : Type 0} (tells : Bool) (seen : D → DiskSeen) (start : Beginning D) where
  -- from the opened bridge on these events got these replies, each answered on the disk that the one before left
  abbrev pub Passes : List Event → List Reply → Bridged → D → Type 0
  Passes = runs.Passes (bridge_machine tells seen) (start_of start)

  -- of a run state that it began at: what the machine gives, what the bridge and the files stand for, and what crashes leave
  abbrev pub LeadsTo : {events : List Event} {replies : List Reply} {bridge : Bridged} {disk : D} → Passes events replies bridge disk → RunState → Type 0
  LeadsTo passes run = runs.LeadsTo (bridge_machine tells seen) passes run

  -- the frames are events, which were answered by these replies, and of every run state that the run began at
  abbrev pub IsReached : List Frame → List Reply → Bridged → D → Type 0
  IsReached = runs.IsReached (bridge_machine tells seen) (start_of start)

  -- All but the last of the events were answered, and in the turn of the last, which got the reply of a fault, the disk failed: it is a
  -- command or a save without a refusal.
  abbrev pub IsBroken : List Frame → List Reply → D → Type 0
  IsBroken = runs.IsBroken (bridge_machine tells seen) (start_of start)

-- ---- the words of the loop

-- the bridge is on the disk
abbrev pub IsReady : Bool → Turned → DiskSeen → Type 0
IsReady tells (On bridge) disk = IsTrue tells → IsOn bridge.store disk.moments.now
IsReady tells Ended disk = ⊥

abbrev pub HasReached : {D : Type 0} → Bool → (D → DiskSeen) → Beginning D → List Frame → List Reply → Turned → D → Type 0
HasReached tells seen start frames replies (On bridge) disk = IsReached tells seen start frames replies bridge disk
HasReached tells seen start frames replies Ended disk = ⊥

-- a disk beside the bridge, of which this is seen
abbrev pub Ready : {D : Type 0} → Bool → (D → DiskSeen) → Turned × D → Type 0
Ready tells seen now = IsReady tells now.0 (seen now.1)

abbrev pub Reached : {D : Type 0} → Bool → (D → DiskSeen) → Beginning D → List Frame → List Reply → Turned × D → Type 0
Reached tells seen start frames replies now = HasReached tells seen start frames replies now.0 now.1

abbrev pub Broken : {D : Type 0} → Bool → (D → DiskSeen) → Beginning D → List Frame → List Reply → Turned × D → Type 0
Broken tells seen start frames replies now = IsBroken tells seen start frames replies now.1
