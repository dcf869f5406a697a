-- What a run of polls asked a port, and where its frames and replies led.
use Rattle.std.specs.Prelude.{◌≡◌, ℕ, suc, ◌<◌, List, [], ◌∷◌, ◌++◌, length}
use Rattle.byte_io.specs.Port.{Note, polled, Got, PortSeen, Notes}
use Rattle.feed_frames.specs.Frames.{Frame}
use Rattle.feed_frames.specs.Replies.{Reply}
use Rattle.frame_loop.specs.Answering.{LeadsTo}
use Rattle.port_loop.specs.Polls.{Parts, no_parts, Closing, Brings, BringsFirst}
use Rattle.port_loop.specs.Sends.{sends_of, Replied, closings}
use Rattle.port_loop.specs.declared.attending.Ending.{Ending}
use Rattle.port_loop.specs.declared.attending.Ending.TheVariants.{Done, Ended}

-- one poll that was dealt with: each of its frames was answered, and each reply sent, in order; and then was closed what was to be
pub record DealsWith (kinds : ℕ) (part after : Parts) (frames : List Frame) (replies : List Reply) (notes : List Note) : Type 0 where
  pub got : Got
  pub shut : List Closing
  pub sends : List Note
  pub brings : Brings kinds part got frames after shut
  pub replied : Replied (sends_of got) frames replies sends
  pub notes_are : notes ≡ polled got ∷ (sends ++ closings shut)

-- one poll of which some frames were answered, the last with the reply that ended the run. Nothing was asked behind its send
pub record BreaksOff (kinds : ℕ) (part : Parts) (frames : List Frame) (replies : List Reply) (notes : List Note) : Type 0 where
  pub got : Got
  pub sends : List Note
  pub brings : BringsFirst kinds part got frames
  pub some : 0 < length frames
  pub replied : Replied (sends_of got) frames replies sends
  pub notes_are : notes ≡ polled got ∷ sends

-- so many polls were made, each dealt with before the next: what is a part of a frame or a message, the frames, the replies, and what the port noted
pub data DealsWithAll (kinds : ℕ) : ℕ → Parts → List Frame → List Reply → List Note → Type 0 where
  none_yet : DealsWithAll kinds 0 no_parts [] [] []
  one_more : (polls : ℕ) (part after : Parts) {frames more : List Frame} {replies answers : List Reply} {notes added : List Note}
      → DealsWithAll kinds polls part frames replies notes → DealsWith kinds part after more answers added
      → DealsWithAll kinds (suc polls) after (frames ++ more) (replies ++ answers) (notes ++ added)

-- all polls were made and dealt with
pub record IsDone {Start X : Type 0} (kinds : ℕ) (Reached : Start → List Frame → List Reply → X → Type 0) (turns : ℕ) (notes : List Note) (first now : X) : Type 0 where
  pub part : Parts
  pub frames : List Frame
  pub replies : List Reply
  pub dealt : DealsWithAll kinds turns part frames replies notes
  pub leads : LeadsTo Reached Reached first frames replies now

-- the polls before the last were dealt with, and the last reply ended the run
pub record HasEnded {Start X : Type 0} (kinds : ℕ) (Reached Broken : Start → List Frame → List Reply → X → Type 0) (turns : ℕ) (notes : List Note) (first now : X) : Type 0 where
  pub polls : ℕ
  pub part : Parts
  pub frames : List Frame
  pub replies : List Reply
  pub before : List Note
  pub fewer : polls < turns
  pub dealt : DealsWithAll kinds polls part frames replies before
  pub last_frames : List Frame
  pub last_replies : List Reply
  pub last_notes : List Note
  pub last : BreaksOff kinds part last_frames last_replies last_notes
  pub notes_are : notes ≡ before ++ last_notes
  pub leads : LeadsTo Reached Broken first (frames ++ last_frames) (replies ++ last_replies) now

abbrev pub PollTranscript : {Start X : Type 0} (kinds : ℕ) (Reached Broken : Start → List Frame → List Reply → X → Type 0) (turns : ℕ) (notes : List Note) (first : X) → Ending → X → Type 0
PollTranscript kinds Reached Broken turns notes first Done now = IsDone kinds Reached turns notes first now
PollTranscript kinds Reached Broken turns notes first Ended now = HasEnded kinds Reached Broken turns notes first now

-- what the port noted, which stays bound, and how the run ended
pub record Attends {Start X : Type 0} (kinds : ℕ) (Reached Broken : Start → List Frame → List Reply → X → Type 0) (old new : PortSeen) (turns : ℕ) (first : X) (how : Ending) (now : X) : Type 0 where
  pub notes : List Note
  pub noted : Notes old new notes
  pub transcript : PollTranscript kinds Reached Broken turns notes first how now
