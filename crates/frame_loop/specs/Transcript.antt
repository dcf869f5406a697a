-- What a run over a stream read and wrote, and where its frames and replies led.
use Rattle.std.specs.Prelude.{◌≡◌, ◌⊎◌, ℕ, ◌+◌, ◌<◌, ◌≤◌, List, [], ◌∷◌, ◌++◌, length}
use Rattle.std.specs.Io.KnownBytes.{Consumes, Appends, IsAtEnd}
use Rattle.fault_counts.specs.Faults.{NeverFell}
use Rattle.byte_io.specs.Source.{SourceSeen}
use Rattle.byte_io.specs.Sink.{SinkSeen}
use Rattle.feed_frames.specs.Frames.{Frame, Splits, IsBadFrame, IsPartialFrame}
use Rattle.feed_frames.specs.Replies.{Reply, reply_text, replies_text}
use Rattle.feed_frames.specs.declared.reader.TheConstants.{PIECE}
use Rattle.frame_loop.specs.Causes.{SourceCause, SinkCause}
use Rattle.frame_loop.specs.declared.following.Ending.{Ending}
use Rattle.frame_loop.specs.declared.following.Ending.TheVariants.{Done, BadFrame, CutFrame, SourceFault, SinkFault, Ended, InputLimit}

-- a source and a sink
pub record Streams : Type 0 where
  pub source : SourceSeen
  pub sink : SinkSeen

abbrev pub streams : SourceSeen → SinkSeen → Streams
streams source sink = record { source = source; sink = sink }

-- the bytes read so far are whole frames and a rest, what was written is the replies to them, and they lead here
pub record SoFar {X : Type 0} (kinds : ℕ) (Reached : List Frame → List Reply → X → Type 0) (read rest written : List ℕ) (now : X) : Type 0 where
  pub frames : List Frame
  pub replies : List Reply
  pub split : Splits kinds read frames rest
  pub reached : Reached frames replies now
  pub told : written ≡ replies_text replies

-- the same up to the last reply, of which the end is missing; no frame behind it was dealt with
pub record Interrupted {X : Type 0} (kinds : ℕ) (Reached : List Frame → List Reply → X → Type 0) (read rest written : List ℕ) (now : X) : Type 0 where
  pub frames : List Frame
  pub replies : List Reply
  pub last : Reply
  pub split : Splits kinds read frames rest
  pub reached : Reached frames (replies ++ last ∷ []) now
  pub part : List ℕ
  pub missing : List ℕ
  pub last_is : reply_text last ≡ part ++ missing
  pub some_missing : 0 < length missing
  pub told : written ≡ replies_text replies ++ part

-- the last frame led to the end, and its reply is whole, or else this failed
pub record BrokenOff {X : Type 0} (kinds : ℕ) (failed : Type 0) (Broken : List Frame → List Reply → X → Type 0) (read rest written : List ℕ) (now : X) : Type 0 where
  pub frames : List Frame
  pub replies : List Reply
  pub last : Reply
  pub split : Splits kinds read frames rest
  pub broken : Broken frames (replies ++ last ∷ []) now
  pub part : List ℕ
  pub missing : List ℕ
  pub last_is : reply_text last ≡ part ++ missing
  pub whole : (missing ≡ []) ⊎ failed
  pub told : written ≡ replies_text replies ++ part

-- the source was read to its end, and each byte belongs to a whole frame
pub record IsDone {X : Type 0} (kinds : ℕ) (Reached : List Frame → List Reply → X → Type 0) (new : Streams) (limit : ℕ) (read written : List ℕ) (now : X) : Type 0 where
  pub answered : SoFar kinds Reached read [] written now
  pub at_end : IsAtEnd new.source.left
  pub below_limit : length read < limit

-- behind the whole frames stands what begins none
pub record EndsAtBadFrame {X : Type 0} (kinds : ℕ) (Reached : List Frame → List Reply → X → Type 0) (read written : List ℕ) (offset : ℕ) (now : X) : Type 0 where
  pub rest : List ℕ
  pub answered : SoFar kinds Reached read rest written now
  pub bad : IsBadFrame kinds rest
  pub offset_is : offset + length rest ≡ length read

-- the source was read to its end, which lies inside a frame
pub record EndsInFrame {X : Type 0} (kinds : ℕ) (Reached : List Frame → List Reply → X → Type 0) (new : Streams) (limit : ℕ) (read written : List ℕ) (offset : ℕ) (now : X) : Type 0 where
  pub rest : List ℕ
  pub answered : SoFar kinds Reached read rest written now
  pub partial : IsPartialFrame kinds rest
  pub some_left : 0 < length rest
  pub offset_is : offset + length rest ≡ length read
  pub at_end : IsAtEnd new.source.left
  pub below_limit : length read < limit

-- as many bytes as the limit were read, and all whole frames among them answered
pub record EndsAtLimit {X : Type 0} (kinds : ℕ) (Reached : List Frame → List Reply → X → Type 0) (limit : ℕ) (read written : List ℕ) (now : X) : Type 0 where
  pub rest : List ℕ
  pub answered : SoFar kinds Reached read rest written now
  pub partial : IsPartialFrame kinds rest
  pub at_limit : length read ≡ limit

-- the last read failed
pub record EndsAtSource {X : Type 0} (kinds : ℕ) (Reached : List Frame → List Reply → X → Type 0) (old new : Streams) (limit : ℕ) (read written : List ℕ) (now : X) : Type 0 where
  pub rest : List ℕ
  pub answered : SoFar kinds Reached read rest written now
  pub partial : IsPartialFrame kinds rest
  pub below_limit : length read < limit
  pub cause : SourceCause old.source new.source

-- the last write failed, or took nothing. Less than one piece wasn't dealt with
pub record EndsAtSink {X : Type 0} (kinds : ℕ) (Reached : List Frame → List Reply → X → Type 0) (old new : Streams) (read written : List ℕ) (now : X) : Type 0 where
  pub rest : List ℕ
  pub interrupted : Interrupted kinds Reached read rest written now
  pub one_piece : length rest < PIECE
  pub cause : SinkCause old.sink new.sink

-- what answers has ended the run: the sink took the last reply whole, or failed in the last write, or took nothing.
-- Less than one piece wasn't dealt with
pub record EndsWithIt {X : Type 0} (kinds : ℕ) (Broken : List Frame → List Reply → X → Type 0) (old new : Streams) (read written : List ℕ) (now : X) : Type 0 where
  pub rest : List ℕ
  pub broken_off : BrokenOff kinds (SinkCause old.sink new.sink) Broken read rest written now
  pub one_piece : length rest < PIECE

-- what was read from the source, and what the sink took
pub record Passed : Type 0 where
  pub read : List ℕ
  pub written : List ℕ

abbrev pub passed : List ℕ → List ℕ → Passed
passed read written = record { read = read; written = written }

abbrev pub Ends : {X : Type 0} (kinds : ℕ) (Reached Broken : List Frame → List Reply → X → Type 0) (old new : Streams) (limit : ℕ) → Passed → Ending → X → Type 0
Ends kinds Reached Broken old new limit bytes Done now = IsDone kinds Reached new limit bytes.read bytes.written now
Ends kinds Reached Broken old new limit bytes (BadFrame offset) now = EndsAtBadFrame kinds Reached bytes.read bytes.written offset now
Ends kinds Reached Broken old new limit bytes (CutFrame offset) now = EndsInFrame kinds Reached new limit bytes.read bytes.written offset now
Ends kinds Reached Broken old new limit bytes SourceFault now = EndsAtSource kinds Reached old new limit bytes.read bytes.written now
Ends kinds Reached Broken old new limit bytes SinkFault now = EndsAtSink kinds Reached old new bytes.read bytes.written now
Ends kinds Reached Broken old new limit bytes InputLimit now = EndsAtLimit kinds Reached limit bytes.read bytes.written now
Ends kinds Reached Broken old new limit bytes Ended now = EndsWithIt kinds Broken old new bytes.read bytes.written now

-- what was read from the source, what the sink took, and how it ended
pub record Transcript {X : Type 0} (kinds : ℕ) (Reached Broken : List Frame → List Reply → X → Type 0) (old new : Streams) (limit : ℕ) (how : Ending) (now : X) : Type 0 where
  pub read : List ℕ
  pub written : List ℕ
  pub given : Consumes old.source.left new.source.left read
  pub took : Appends old.sink.taken new.sink.taken written
  pub within : length read ≤ limit
  pub ending : Ends kinds Reached Broken old new limit (passed read written) how now

-- from each start that led to the first state
pub record Follows {Start X : Type 0} (kinds : ℕ) (Reached Broken : Start → List Frame → List Reply → X → Type 0) (old new : Streams) (limit : ℕ) (first : X) (how : Ending) (now : X) : Type 0 where
  pub source_later : NeverFell old.source.faults new.source.faults
  pub sink_later : NeverFell old.sink.faults new.sink.faults
  pub transcript : (start : Start) → Reached start [] [] first → Transcript kinds (Reached start) (Broken start) old new limit how now
