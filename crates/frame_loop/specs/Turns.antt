-- What one turn does, whatever answers.
use Rattle.std.specs.Prelude.{◌≡◌, ◌⊎◌, ℕ, List, [], ◌∷◌, ◌++◌, Result, Ok, Err}
use Rattle.feed_frames.specs.Frames.{Frame, IsFramed}
use Rattle.feed_frames.specs.Replies.{Reply}
use Rattle.frame_loop.specs.declared.answerer.TheConstants.{QUERY, STREAM_QUERY}

-- a query that comes by itself, as a datagram or over a stream of its own
abbrev pub IsQuery : Frame → Type 0
IsQuery frame = (frame.kind ≡ QUERY) ⊎ (frame.kind ≡ STREAM_QUERY)

-- a frame that a stream of frames may hold, or a query of any length: a datagram may be longer than such a stream's message
abbrev pub IsAskable : (kinds : ℕ) → Frame → Type 0
IsAskable kinds frame = IsFramed kinds frame ⊎ IsQuery frame

-- wherever it was, one frame and one reply lead on from there, to where the next turn may begin
pub record GoesOn {Start X : Type 0} (Ready : X → Type 0) (Reached : Start → List Frame → List Reply → X → Type 0) (old : X) (frame : Frame) (reply : Reply) (new : X) : Type 0 where
  pub goes_on : (start : Start) (frames : List Frame) (replies : List Reply)
      → Reached start frames replies old → Reached start (frames ++ frame ∷ []) (replies ++ reply ∷ []) new
  pub ready : Ready new

-- wherever it was, one frame and one reply lead to the end
pub record GoesOut {Start X : Type 0} (Reached Broken : Start → List Frame → List Reply → X → Type 0) (old : X) (frame : Frame) (reply : Reply) (new : X) : Type 0 where
  pub goes_out : (start : Start) (frames : List Frame) (replies : List Reply)
      → Reached start frames replies old → Broken start (frames ++ frame ∷ []) (replies ++ reply ∷ []) new

abbrev pub Turns : {Start X A E : Type 0} (Ready : X → Type 0) (Reached Broken : Start → List Frame → List Reply → X → Type 0) (old : X) (frame : Frame) (reply : Reply) (new : X) → Result A E → Type 0
Turns Ready Reached Broken old frame reply new (Ok done) = GoesOn Ready Reached old frame reply new
Turns Ready Reached Broken old frame reply new (Err over) = GoesOut Reached Broken old frame reply new
