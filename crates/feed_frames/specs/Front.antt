-- What stands at the front of the bytes of a stream.
use Rattle.std.specs.Prelude.{◌≡◌, ℕ, List, ◌++◌}
use Rattle.feed_frames.specs.Frames as frames
use Rattle.feed_frames.specs.Frames.{frame_text, IsFramed, IsBadFrame, IsPartialFrame}
use Rattle.feed_frames.specs.declared.frame.Frame.{Frame}
use Rattle.feed_frames.specs.declared.front.Front.{Front}
use Rattle.feed_frames.specs.declared.front.Front.TheVariants.{Whole, Partial, Bad}

abbrev pub frame_of : Frame → frames.Frame
frame_of frame = record { kind = frame.kind; payload = frame.payload.now }

-- the bytes begin with the frame
pub record BeginsWith (kinds : ℕ) (bytes : List ℕ) (frame : frames.Frame) : Type 0 where
  pub rest : List ℕ
  pub whole : bytes ≡ frame_text frame ++ rest
  pub framed : IsFramed kinds frame

abbrev pub IsFront : ℕ → List ℕ → Front → Type 0
IsFront kinds bytes (Whole frame) = BeginsWith kinds bytes (frame_of frame)
IsFront kinds bytes Partial = IsPartialFrame kinds bytes
IsFront kinds bytes Bad = IsBadFrame kinds bytes
