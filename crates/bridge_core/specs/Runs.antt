-- Where the events of a run lead what answers them and its files, whatever machine it is whose states hold a run state.
use Rattle.std.specs.Prelude.{◌≡◌, ◌⊎◌, ℕ, ◌+◌, ◌≤◌, Option, Some, None, Bool, IsTrue, List, [], ◌∷◌, ◌++◌, length, map}
use Rattle.fault_counts.specs.Faults.{NeverFell}
use Rattle.disk_model.specs.Moments.{Files, EachMoment, IsImage}
use Rattle.disk_model.specs.DiskSeen.{DiskSeen, HasFailed, bytes_in}
use Rattle.feed_frames.specs.Frames.{Frame}
use Rattle.feed_frames.specs.Replies.{Reply}
use Rattle.chain_commands.specs.RunState.{RunState}
use Rattle.name_store.specs.Stands.{Bytes, Stands, EachStandsForEither}
use Rattle.name_store.specs.Stored as stores
use Rattle.name_store.specs.Stored.{Stored}
use Rattle.bridge_core.specs.Bridge.{fault_reply, AreFilesOf}

-- A machine with states S and events E, and X that answers the events over a disk D.
--
-- Of the states: the run state in each, and the state that a run begins at. Of the events: the frame of each. Of the machine: its steps,
-- and its runs of steps; the events that have no refusal; and the run states that a disk may keep of such an event, where its fault cut
-- the event short. Of X: its store, and the states that it stands for. Of the disk: whether it tells its files, and what is seen of it.
-- And of a turn of X: the event was answered, and X goes on; or the disk failed, and there is no X behind it.
pub record Machine (S E X D : Type 0) : Type 1 where
  pub run_of : S → RunState
  pub begin : RunState → S
  pub frame_of : E → Frame
  pub Step : S → E → Reply → S → Type 0
  pub Run : S → List E → List Reply → S → Type 0
  pub IsValid : S → E → Type 0
  pub IsDone : S → E → RunState → Type 0
  pub store_of : X → Stored
  pub StandsFor : X → S → Type 0
  pub tells : Bool
  pub seen : D → DiskSeen
  pub Answers : (old : X) (before : D) (event : E) (reply : Reply) (new : X) (after : D) → Type 0
  pub Breaks : (old : X) (before : D) (event : E) (after : D) → Type 0

-- what a run begins at: the disk before its files were opened and behind that, and X as it is first
pub record Start (X D : Type 0) : Type 0 where
  pub before : DiskSeen
  pub opened : D
  pub first : X

-- what a run was asked and answered so far, and the run state that is being kept, if any
pub record Asked (E : Type 0) : Type 0 where
  pub events : List E
  pub replies : List Reply
  pub kept : Option RunState

abbrev pub asked : {E : Type 0} → List E → List Reply → Option RunState → Asked E
asked events replies kept = record { events = events; replies = replies; kept = kept }

-- the image stands for the run state that is being kept
abbrev pub IsKept : Option RunState → Bytes → Type 0
IsKept None image_is = ⊥
IsKept (Some run) image_is = Stands image_is run

-- the store that was opened stands for the run state, and so did the files as they were read
pub record BeginsAt (tells : Bool) (before : DiskSeen) (store : Stored) (run : RunState) : Type 0 where
  pub stands : stores.StandsFor store run
  pub files : IsTrue tells → Stands (bytes_in before) run

module _ {S E X D : Type 0} (m : Machine S E X D) where
  abbrev pub Begins : Start X D → RunState → Type 0
  Begins start run = BeginsAt m.tells start.before (m.store_of start.first) run

  -- ---- turns, one after the other

  -- From the first X on these events got these replies, each answered on the disk that the one before left: so between two of them the
  -- disk is asked nothing, and each reply is given away over the disk that stands behind its event.
  pub data Passes (start : Start X D) : List E → List Reply → X → D → Type 0 where
    none_yet : Passes start [] [] start.first start.opened
    one_more : {events : List E} {replies : List Reply} {old : X} {before : D} (event : E) (reply : Reply) (new : X) (after : D)
        → Passes start events replies old before → m.Answers old before event reply new after
        → Passes start (events ++ event ∷ []) (replies ++ reply ∷ []) new after

  -- ---- what crashes leave

  -- the image stands for the run state behind a front of these events, which has so many of them at least
  pub record StandsForFront (run : RunState) (least : ℕ) (events : List E) (replies : List Reply) (image_is : Bytes) : Type 0 where
    pub front : List E
    pub more : List E
    pub answered : List Reply
    pub others : List Reply
    pub events_are : events ≡ front ++ more
    pub replies_are : replies ≡ answered ++ others
    pub no_fewer : least ≤ length front
    pub reached : S
    pub runs : m.Run (m.begin run) front answered reached
    pub stands : Stands image_is (m.run_of reached)

  -- the image stands for the run state behind so many events at least, or for that which is being kept
  abbrev pub StandsForAsked : RunState → ℕ → Asked E → Bytes → Type 0
  StandsForAsked run least so_far image_is = StandsForFront run least so_far.events so_far.replies image_is ⊎ IsKept so_far.kept image_is

  -- whatever a crash leaves is so
  abbrev pub LeavesFront : RunState → ℕ → Asked E → Files → Type 0
  LeavesFront run least so_far files = (image_is : Bytes) → IsImage files image_is → StandsForAsked run least so_far image_is

  -- whatever a crash leaves was there before the files were opened, or is so
  abbrev pub LeavesOldOrFront : DiskSeen → RunState → Asked E → Files → Type 0
  LeavesOldOrFront old run so_far files = (image_is : Bytes) → IsImage files image_is → IsImage old.moments.now image_is ⊎ StandsForAsked run 0 so_far image_is

  -- at each moment since the reply to an event was given away, whatever a crash leaves stands for the run state behind that event
  -- or a later one: so for each of them, and for the opening
  abbrev pub HoldsAnswered : {start : Start X D} {events : List E} {replies : List Reply} {x : X} {disk : D}
      → RunState → Asked E → DiskSeen → Passes start events replies x disk → Type 0
  HoldsAnswered {start = start} run so_far now none_yet = EachMoment (LeavesFront run 0 so_far) (m.seen start.opened).moments now.moments
  HoldsAnswered run so_far now (one_more {events = events} event reply new after before by) =
      EachMoment (LeavesFront run (length events + 1) so_far) (m.seen after).moments now.moments × HoldsAnswered run so_far now before

  -- ---- X goes on

  -- Of a run state that it began at: the machine gives these replies, X stands for what they lead to, and so do the files. Of what
  -- crashes leave.
  pub record LeadsTo {start : Start X D} {events : List E} {replies : List Reply} {x : X} {disk : D} (passes : Passes start events replies x disk) (run : RunState) : Type 0 where
    pub new : S
    pub runs : m.Run (m.begin run) events replies new
    pub stands : m.StandsFor x new
    pub files : IsTrue m.tells → AreFilesOf (m.run_of new) (m.seen disk).moments.now
    pub any_moment : IsTrue m.tells → EachMoment (LeavesOldOrFront start.before run (asked events replies None)) start.before.moments (m.seen disk).moments
    pub acknowledged : IsTrue m.tells → HoldsAnswered run (asked events replies None) (m.seen disk) passes

  -- the frames are events, which were answered by these replies, and of every run state that the run began at
  pub record IsReached (start : Start X D) (frames : List Frame) (replies : List Reply) (x : X) (disk : D) : Type 0 where
    pub events : List E
    pub frames_are : frames ≡ map m.frame_of events
    pub passes : Passes start events replies x disk
    pub later : NeverFell start.before.faults (m.seen disk).faults
    pub each : (run : RunState) → Begins start run → LeadsTo passes run

  -- ---- a fault of the disk has ended it

  -- Behind events that led to the state `mid`: whatever a crash leaves stands for its run state, or for one that may be kept of the last
  -- event.
  pub record KeepsNext {start : Start X D} {events : List E} {replies : List Reply} {x : X} {before : D} (passes : Passes start events replies x before) (last : E) (disk : D)
      (run : RunState) (mid : S) : Type 0 where
    pub kept : RunState
    pub is_kept : m.IsDone mid last kept
    pub files : EachStandsForEither (m.run_of mid) kept (m.seen disk).moments.now
    pub any_moment : EachMoment (LeavesOldOrFront start.before run (asked events replies (Some kept))) start.before.moments (m.seen disk).moments
    pub acknowledged : HoldsAnswered run (asked events replies (Some kept)) (m.seen disk) passes

  -- Of a run state that it began at: the machine gives all but the last event their replies, and the last has no refusal. Of what
  -- crashes leave.
  pub record BreaksAt {start : Start X D} {events : List E} {replies : List Reply} {x : X} {before : D} (passes : Passes start events replies x before) (last : E) (disk : D)
      (run : RunState) : Type 0 where
    pub new : S
    pub runs : m.Run (m.begin run) events replies new
    pub valid : m.IsValid new last
    pub crashes : IsTrue m.tells → KeepsNext passes last disk run new

  -- The frames are events. All but the last were answered, and in the turn of the last, which got the reply of a fault, the disk failed:
  -- the last call that was made of it.
  pub record IsBroken (start : Start X D) (frames : List Frame) (replies : List Reply) (disk : D) : Type 0 where
    pub events : List E
    pub last : E
    pub answered : List Reply
    pub old : X
    pub before : D
    pub frames_are : frames ≡ map m.frame_of (events ++ last ∷ [])
    pub replies_are : replies ≡ answered ++ fault_reply ∷ []
    pub passes : Passes start events answered old before
    pub ends : m.Breaks old before last disk
    pub failed : HasFailed (m.seen before) (m.seen disk)
    pub later : NeverFell start.before.faults (m.seen disk).faults
    pub rose : HasFailed start.before (m.seen disk)
    pub each : (run : RunState) → Begins start run → BreaksAt passes last disk run

-- ---- what the theory asks of a machine

-- the files stand for the new run state, and whatever a crash left meanwhile stands for the old one or for this
pub record KeepsFiles (old new : RunState) (before after : DiskSeen) : Type 0 where
  pub files : AreFilesOf new after.moments.now
  pub any_moment : EachMoment (EachStandsForEither old new) before.moments after.moments

-- whatever a crash left stands for the old run state, or for one that may be kept
pub record KeepsEither (MayKeep : RunState → Type 0) (old : RunState) (before after : DiskSeen) : Type 0 where
  pub kept : RunState
  pub is_kept : MayKeep kept
  pub any_moment : EachMoment (EachStandsForEither old kept) before.moments after.moments

module _ {S E X D : Type 0} (m : Machine S E X D) where
  -- From a state that X stood for: the machine makes one step, and X stands for the state behind it. Where the files stood for the run
  -- state in the old one, they stand for that in the new one.
  pub record Moves (old : S) (before : D) (event : E) (reply : Reply) (x : X) (after : D) : Type 0 where
    pub new : S
    pub step : m.Step old event reply new
    pub stands : m.StandsFor x new
    pub keeps : IsTrue m.tells → AreFilesOf (m.run_of old) (m.seen before).moments.now → KeepsFiles (m.run_of old) (m.run_of new) (m.seen before) (m.seen after)

  -- what a turn does behind which X goes on: no count of faults fell, and of each state that X stood for
  pub record Turns (old : X) (before : D) (event : E) (reply : Reply) (new : X) (after : D) : Type 0 where
    pub later : NeverFell (m.seen before).faults (m.seen after).faults
    pub moves : (state : S) → m.StandsFor old state → Moves state before event reply new after

  -- from a state that X stood for: the event has no refusal; and where the files stood for its run state, of what crashes leave
  pub record CutsShort (old : S) (before : D) (event : E) (after : D) : Type 0 where
    pub valid : m.IsValid old event
    pub keeps : IsTrue m.tells → AreFilesOf (m.run_of old) (m.seen before).moments.now → KeepsEither (m.IsDone old event) (m.run_of old) (m.seen before) (m.seen after)

  -- what a turn does in which the disk failed: no count of faults fell, the last call failed, and of each state that X stood for
  pub record Fails (old : X) (before : D) (event : E) (after : D) : Type 0 where
    pub later : NeverFell (m.seen before).faults (m.seen after).faults
    pub failed : HasFailed (m.seen before) (m.seen after)
    pub cuts : (state : S) → m.StandsFor old state → CutsShort state before event after

  -- A run begins at its run state, and goes on by one step; and what turns of X do.
  pub record IsMachine : Type 0 where
    pub begins_at : (run : RunState) → m.run_of (m.begin run) ≡ run
    pub no_step : (state : S) → m.Run state [] [] state
    pub next_step : (old : S) (events : List E) (replies : List Reply) (mid : S) (event : E) (reply : Reply) (new : S)
        → m.Run old events replies mid → m.Step mid event reply new → m.Run old (events ++ event ∷ []) (replies ++ reply ∷ []) new
    pub turns : (old : X) (before : D) (event : E) (reply : Reply) (new : X) (after : D) → m.Answers old before event reply new after → Turns old before event reply new after
    pub fails : (old : X) (before : D) (event : E) (after : D) → m.Breaks old before event after → Fails old before event after
