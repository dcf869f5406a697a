-- What came of answering one frame of a poll.
use Rattle.std.specs.Prelude.{Bool, List, [], ◌∷◌, Result, Ok, Err}
use Rattle.byte_io.specs.Port.{Note, PortSeen}
use Rattle.feed_frames.specs.Frames.{Frame}
use Rattle.feed_frames.specs.Replies.{Reply}
use Rattle.frame_loop.specs.Answering.{LeadsTo}
use Rattle.port_loop.specs.Sends.{SendsOne}

-- a port, and what answers, with its world
pub record Held (X : Type 0) : Type 0 where
  pub port : PortSeen
  pub now : X

abbrev pub held : {X : Type 0} → PortSeen → X → Held X
held port now = record { port = port; now = now }

-- a frame was answered, and its reply sent
pub record AnswersFrame {Start X : Type 0} (Reached After : Start → List Frame → List Reply → X → Type 0) (sends : Reply → Bool → List Note) (frame : Frame) (old new : Held X) : Type 0 where
  pub reply : Reply
  pub sent : SendsOne old.port new.port (sends reply)
  pub leads : LeadsTo Reached After old.now (frame ∷ []) (reply ∷ []) new.now

-- the same, and the next may be answered
pub record MayGoOn {Start X : Type 0} (Ready : X → Type 0) (Reached : Start → List Frame → List Reply → X → Type 0) (sends : Reply → Bool → List Note) (frame : Frame) (old new : Held X) : Type 0 where
  pub answered : AnswersFrame Reached Reached sends frame old new
  pub ready : Ready new.now

abbrev pub Answers : {Start X A E : Type 0} (Ready : X → Type 0) (Reached Broken : Start → List Frame → List Reply → X → Type 0) (sends : Reply → Bool → List Note) (frame : Frame) (old new : Held X) → Result A E → Type 0
Answers Ready Reached Broken sends frame old new (Ok done) = MayGoOn Ready Reached sends frame old new
Answers Ready Reached Broken sends frame old new (Err over) = AnswersFrame Reached Broken sends frame old new
