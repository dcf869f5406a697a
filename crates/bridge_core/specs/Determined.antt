-- How a run over a stream ends where nothing fails: its files, its bytes, the kinds of frames that are read and its limit alone decide.
use Rattle.std.specs.Prelude.{◌≡◌, ℕ, ◌<◌, Bool, IsTrue, List, [], length, take, Some}
use Rattle.fault_counts.specs.Faults.{Rose}
use Rattle.disk_model.specs.DiskSeen.{DiskSeen, bytes_in}
use Rattle.feed_frames.specs.Frames.{Frame, Splits, IsRest}
use Rattle.frame_loop.specs.Transcript.{Streams}
use Rattle.frame_loop.specs.Determined as loops
use Rattle.frame_loop.specs.Determined.{IsWhole, IsBadAt, IsCutAt, IsOverLimit}
use Rattle.chain_commands.specs.RunState.{RunState}
use Rattle.name_store.specs.Stands.{Stands}
use Rattle.bridge_core.specs.Opening.{EndsWell}
use Rattle.bridge_core.specs.declared.status.Status.{Status}
use Rattle.bridge_core.specs.declared.status.Status.TheVariants.{Done, Uninitialised, Damaged, BadFrame, CutFrame, NoMemory, InputLimit}

-- what a command is handed, as contracts see it: a source and a sink, and a disk
pub record Outside : Type 0 where
  pub streams : Streams
  pub disk : DiskSeen

abbrev pub outside : Streams → DiskSeen → Outside
outside streams disk = record { streams = streams; disk = disk }

-- no count of faults rose, and the sink took a byte at least of the last piece
pub record NothingFailed (old new : Outside) : Type 0 where
  pub streams : loops.NothingFailed old.streams new.streams
  pub disk : ¬ (Rose old.disk.faults new.disk.faults)

-- The bytes up to the limit are these frames and this rest. Of done, a bad frame, a cut frame and the limit one alone fits.
-- Files that can't be opened, and want of memory, may stand in its place.
pub data IsDecided (kinds limit : ℕ) (bytes : List ℕ) (frames : List Frame) (rest : List ℕ) : Status → Type 0 where
  whole : IsWhole limit bytes rest → IsDecided kinds limit bytes frames rest Done
  bad : (offset : ℕ) → IsBadAt kinds frames rest offset → IsDecided kinds limit bytes frames rest (BadFrame offset)
  cut : (offset : ℕ) → IsCutAt kinds limit bytes frames rest offset → IsDecided kinds limit bytes frames rest (CutFrame offset)
  over : IsOverLimit kinds limit bytes rest → IsDecided kinds limit bytes frames rest InputLimit
  uninitialised : IsDecided kinds limit bytes frames rest Uninitialised
  damaged : (file at : ℕ) → IsDecided kinds limit bytes frames rest (Damaged file at)
  lacking : IsDecided kinds limit bytes frames rest NoMemory

-- where nothing failed, the status is the one that the files, the bytes and the limit decide
abbrev pub IsDetermined : (kinds : ℕ) (old new : Outside) (limit : ℕ) → Status → Type 0
IsDetermined kinds old new limit status =
    (bytes : List ℕ) (frames : List Frame) (rest : List ℕ) → old.streams.source.left ≡ Some bytes → Splits kinds (take limit bytes) frames rest → IsRest kinds rest
    → NothingFailed old new → IsDecided kinds limit bytes frames rest status

-- files that stand for a run state, whole frames alone, fewer bytes than the limit, and nothing that fails: the work is done
abbrev pub IsComplete : (kinds : ℕ) (tells : Bool) (old new : Outside) (limit : ℕ) → Status → Type 0
IsComplete kinds tells old new limit status =
    IsTrue tells → (run : RunState) → Stands (bytes_in old.disk) run
    → (bytes : List ℕ) (frames : List Frame) → old.streams.source.left ≡ Some bytes → Splits kinds bytes frames [] → length bytes < limit
    → NothingFailed old new → EndsWell status
