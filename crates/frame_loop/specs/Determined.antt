-- How a run over a stream ends where nothing fails: its bytes and its limit alone decide.
use Rattle.std.specs.Prelude.{◌≡◌, ℕ, ◌<◌, ◌≤◌, false, List, [], length, take, Some}
use Rattle.fault_counts.specs.Faults.{Rose}
use Rattle.feed_frames.specs.Frames.{Frame, frames_text, Splits, IsRest, IsBadFrame, IsPartialFrame}
use Rattle.frame_loop.specs.Transcript.{Streams}
use Rattle.frame_loop.specs.declared.following.Ending.{Ending}
use Rattle.frame_loop.specs.declared.following.Ending.TheVariants.{Done, BadFrame, CutFrame, Ended, InputLimit}

-- no count of faults rose, and the sink took a byte at least of the last piece
pub record NothingFailed (old new : Streams) : Type 0 where
  pub source : ¬ (Rose old.source.faults new.source.faults)
  pub sink : ¬ (Rose old.sink.faults new.sink.faults)
  pub moving : new.sink.stalled ≡ false

pub record IsWhole (limit : ℕ) (bytes rest : List ℕ) : Type 0 where
  pub no_rest : rest ≡ []
  pub below_limit : length bytes < limit

pub record IsBadAt (kinds : ℕ) (frames : List Frame) (rest : List ℕ) (offset : ℕ) : Type 0 where
  pub bad : IsBadFrame kinds rest
  pub offset_is : offset ≡ length (frames_text frames)

pub record IsCutAt (kinds limit : ℕ) (bytes : List ℕ) (frames : List Frame) (rest : List ℕ) (offset : ℕ) : Type 0 where
  pub partial : IsPartialFrame kinds rest
  pub some_left : 0 < length rest
  pub below_limit : length bytes < limit
  pub offset_is : offset ≡ length (frames_text frames)

pub record IsOverLimit (kinds limit : ℕ) (bytes rest : List ℕ) : Type 0 where
  pub partial : IsPartialFrame kinds rest
  pub reached : limit ≤ length bytes

-- the bytes up to the limit are these frames and this rest. Of the first four endings one alone fits, and the end of
-- what answers may come before it
pub data IsOutcome (kinds limit : ℕ) (bytes : List ℕ) (frames : List Frame) (rest : List ℕ) : Ending → Type 0 where
  whole : IsWhole limit bytes rest → IsOutcome kinds limit bytes frames rest Done
  bad : (offset : ℕ) → IsBadAt kinds frames rest offset → IsOutcome kinds limit bytes frames rest (BadFrame offset)
  cut : (offset : ℕ) → IsCutAt kinds limit bytes frames rest offset → IsOutcome kinds limit bytes frames rest (CutFrame offset)
  over : IsOverLimit kinds limit bytes rest → IsOutcome kinds limit bytes frames rest InputLimit
  broken : IsOutcome kinds limit bytes frames rest Ended

-- where nothing failed, the ending is the one that the bytes and the limit decide
abbrev pub IsDetermined : (kinds : ℕ) (old new : Streams) (limit : ℕ) → Ending → Type 0
IsDetermined kinds old new limit how = (bytes : List ℕ) (frames : List Frame) (rest : List ℕ)
    → old.source.left ≡ Some bytes → Splits kinds (take limit bytes) frames rest → IsRest kinds rest → NothingFailed old new → IsOutcome kinds limit bytes frames rest how

-- all was answered, or what answers has ended before
pub data EndsWell : Ending → Type 0 where
  all_answered : EndsWell Done
  ended_before : EndsWell Ended

-- whole frames alone, fewer bytes than the limit, and nothing that fails: all is answered
abbrev pub IsComplete : (kinds : ℕ) (old new : Streams) (limit : ℕ) → Ending → Type 0
IsComplete kinds old new limit how = (bytes : List ℕ) (frames : List Frame)
    → old.source.left ≡ Some bytes → Splits kinds bytes frames [] → length bytes < limit → NothingFailed old new → EndsWell how
