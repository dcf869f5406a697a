-- Where the frames of a listing run have led the lister and the files of its bridge.
use Rattle.std.specs.Prelude.{◌≡◌, ℕ, Bool, IsTrue, List}
use Rattle.bridge_core.specs.Bridge.{fault_reply}
use Rattle.bridge_core.specs.Bridged as bridges
use Rattle.bridge_core.specs.Reached.{Beginning}
use Rattle.bridge_core.specs.Runs as runs
use Rattle.bridge_core.specs.Runs.{Machine, Start}
use Rattle.chain_commands.specs.RunState.{RunState}
use Rattle.disk_model.specs.DiskSeen.{DiskSeen}
use Rattle.feed_frames.specs.Frames.{Frame}
use Rattle.feed_frames.specs.Replies.{Reply}
use Rattle.name_lister.specs.Answers.{AnswersList}
use Rattle.name_lister.specs.Event.{ListEvent, list_frame}
use Rattle.name_lister.specs.Lister.{Listed, StandsFor, IsListOn}
use Rattle.name_lister.specs.Step.{ListState, ListStep, ListRun, IsValidList, MayLeave, beginning}
use Rattle.name_lister.specs.declared.lister.ListTurned.{ListTurned}
use Rattle.name_lister.specs.declared.lister.ListTurned.TheVariants.{On, Ended}

-- ---- the machine, and what answers its events

-- the lister stands for the state, with pages of so many rows
pub record StandsWith (size : ℕ) (lister : Listed) (state : ListState) : Type 0 where
  pub page : lister.page ≡ size
  pub stands : StandsFor lister state

-- the machine with sessions and a save in slices, whose events a lister answers
abbrev pub list_machine : {D : Type 0} (size : ℕ) (tells : Bool) (seen : D → DiskSeen) → Machine ListState ListEvent Listed D
list_machine size tells seen = record {
  run_of = λ state. state.run;
  begin = beginning;
  frame_of = list_frame;
  Step = ListStep size;
  Run = ListRun size;
  IsValid = IsValidList;
  IsDone = MayLeave;
  store_of = λ lister. lister.bridge.store;
  StandsFor = StandsWith size;
  tells = tells;
  seen = seen;
  Answers = λ old before event reply new after. AnswersList tells seen old before event reply (On new) after;
  Breaks = λ old before event after. AnswersList tells seen old before event fault_reply Ended after;
}

-- ---- runs

-- what a listing run begins at: what the run of a bridge does, and how many rows a page has
pub record ListBeginning (D : Type 0) : Type 0 where
  pub begun : Beginning D
  pub size : ℕ

abbrev pub with_pages : {D : Type 0} → ℕ → Beginning D → ListBeginning D
with_pages size begun = record { begun = begun; size = size }

-- the lister over the bridge that was opened, without a session and without a save
pub record IsFirst {D : Type 0} (start : ListBeginning D) (first : Listed) : Type 0 where
  pub bridge_is : first.bridge ≡ start.begun.bridge
  pub page_is : first.page ≡ start.size
  pub stands : (run : RunState) → bridges.StandsFor first.bridge run → StandsFor first (beginning run)

abbrev pub start_at : {D : Type 0} → ListBeginning D → Listed → Start Listed D
start_at start first = record { before = start.begun.before; opened = start.begun.opened; first = first }

-- From the first lister on the frames are events, which were answered by these replies; and so of every run state that the run began at.
pub record IsListReached {D : Type 0} (tells : Bool) (seen : D → DiskSeen) (start : ListBeginning D) (frames : List Frame) (replies : List Reply) (lister : Listed) (disk : D) : Type 0 where
  pub first : Listed
  pub is_first : IsFirst start first
  pub reached : runs.IsReached (list_machine start.size tells seen) (start_at start first) frames replies lister disk

-- All but the last of the events were answered, and in the turn of the last, which got the reply of a fault, the disk failed.
pub record IsListBroken {D : Type 0} (tells : Bool) (seen : D → DiskSeen) (start : ListBeginning D) (frames : List Frame) (replies : List Reply) (disk : D) : Type 0 where
  pub first : Listed
  pub is_first : IsFirst start first
  pub broken : runs.IsBroken (list_machine start.size tells seen) (start_at start first) frames replies disk

-- ---- the words of the loop

-- the lister is on the disk
abbrev pub IsReady : Bool → ListTurned → DiskSeen → Type 0
IsReady tells (On lister) disk = IsTrue tells → IsListOn lister disk.moments.now
IsReady tells Ended disk = ⊥

abbrev pub HasReached : {D : Type 0} → Bool → (D → DiskSeen) → ListBeginning D → List Frame → List Reply → ListTurned → D → Type 0
HasReached tells seen start frames replies (On lister) disk = IsListReached tells seen start frames replies lister disk
HasReached tells seen start frames replies Ended disk = ⊥

abbrev pub Ready : {D : Type 0} → Bool → (D → DiskSeen) → ListTurned × D → Type 0
Ready tells seen now = IsReady tells now.0 (seen now.1)

abbrev pub Reached : {D : Type 0} → Bool → (D → DiskSeen) → ListBeginning D → List Frame → List Reply → ListTurned × D → Type 0
Reached tells seen start frames replies now = HasReached tells seen start frames replies now.0 now.1

abbrev pub Broken : {D : Type 0} → Bool → (D → DiskSeen) → ListBeginning D → List Frame → List Reply → ListTurned × D → Type 0
Broken tells seen start frames replies now = IsListBroken tells seen start frames replies now.1
