-- What a run over a stream read and wrote, where its frames and replies led, and what its files stand for, whatever answers the frames.
use Rattle.std.specs.Prelude.{◌≡◌, ℕ, Bool, List}
use Rattle.fault_counts.specs.Faults.{NeverFell}
use Rattle.disk_model.specs.DiskSeen.{DiskSeen}
use Rattle.feed_frames.specs.Frames.{Frame}
use Rattle.feed_frames.specs.Replies.{Reply}
use Rattle.frame_loop.specs.Transcript.{Transcript}
use Rattle.frame_loop.specs.declared.following.Ending.{Ending}
use Rattle.frame_loop.specs.declared.following.Ending.TheVariants as endings
use Rattle.bridge_core.specs.Reached.{Beginning}
use Rattle.bridge_core.specs.Opening.{IsUnbegun, HasOpened, WritesNothing}
use Rattle.bridge_core.specs.Determined.{Outside, IsDetermined, IsComplete}
use Rattle.bridge_core.specs.declared.status.Status.{Status}
use Rattle.bridge_core.specs.declared.status.Status.TheVariants.{Done, BadFrame, CutFrame, DiskFault, SourceFault, SinkFault, InputLimit}

-- the status of a loop that ended so: what answers has ended it, and that is a fault of the disk
abbrev pub status_of_ending : Ending → Status
status_of_ending endings.Done = Done
status_of_ending (endings.BadFrame offset) = BadFrame offset
status_of_ending (endings.CutFrame offset) = CutFrame offset
status_of_ending endings.SourceFault = SourceFault
status_of_ending endings.SinkFault = SinkFault
status_of_ending endings.InputLimit = InputLimit
status_of_ending endings.Ended = DiskFault

-- from a beginning these frames and these replies led there
abbrev pub Leads : (D X : Type 0) → Type 1
Leads D X = Beginning D → List Frame → List Reply → X × D → Type 0

-- Nothing was read and nothing written, nothing was written to the files, and the status has its cause.
pub record StaysUnread (tells : Bool) (old new : Outside) (status : Status) : Type 0 where
  pub streams : new.streams ≡ old.streams
  pub writes_nothing : WritesNothing tells old.disk new.disk
  pub cause : IsUnbegun tells old.disk new.disk status

module _ {D X : Type 0} (kinds : ℕ) (Reached Broken : Leads D X) (tells : Bool) (seen : D → DiskSeen) (disk : D) (old new : Outside) (limit : ℕ) where
  -- The files were opened, and the loop over the stream ended so, from the bridge that was opened.
  pub record EndsSo (how : Ending) : Type 0 where
    pub start : Beginning D
    pub start_is : start.before ≡ old.disk
    pub opened : HasOpened tells old.disk (seen start.opened) start.bridge
    pub last : X
    pub transcript : Transcript kinds (Reached start) (Broken start) old.streams new.streams limit how (last, disk)

  -- Each status with its cause: the files couldn't be opened, or memory ran out; or the loop ended.
  pub data Ends : Status → Type 0 where
    unbegun : (status : Status) → StaysUnread tells old new status → Ends status
    ended : (how : Ending) → EndsSo how → Ends (status_of_ending how)

  -- what the run did: no count of faults fell, its transcript, and what that comes to where nothing failed
  pub record Streams (status : Status) : Type 0 where
    pub source_later : NeverFell old.streams.source.faults new.streams.source.faults
    pub sink_later : NeverFell old.streams.sink.faults new.streams.sink.faults
    pub disk_later : NeverFell old.disk.faults new.disk.faults
    pub ending : Ends status
    pub determined : IsDetermined kinds old new limit status
    pub complete : IsComplete kinds tells old new limit status
