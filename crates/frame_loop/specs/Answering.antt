-- What came of answering the frames that are there, one after the other, wherever their replies are given.
use Rattle.std.specs.Prelude.{◌≡◌, ℕ, ◌+◌, ◌<◌, List, [], ◌∷◌, ◌++◌, length, Result, Ok, Err}
use Rattle.feed_frames.specs.Frames.{Frame, Splits, IsBadFrame, IsPartialFrame}
use Rattle.feed_frames.specs.Feed.{Feed}
use Rattle.feed_frames.specs.Replies.{Reply}
use Rattle.frame_loop.specs.declared.answering.Halted.{Halted}
use Rattle.frame_loop.specs.declared.answering.Halted.TheVariants.{Partial, Bad, Undelivered, Ended}

-- where the answering stands: what the replies are given to, the bytes that aren't answered, and what answers, with its world
pub record Desk (O X : Type 0) : Type 0 where
  pub outlet : O
  pub feed : Feed
  pub now : X

abbrev pub desk : {O X : Type 0} → O → Feed → X → Desk O X
desk outlet feed now = record { outlet = outlet; feed = feed; now = now }

-- how many bytes were fed
abbrev pub fed_to : Feed → ℕ
fed_to feed = feed.offset + length feed.left

-- each of the frames has its reply, and the replies were given, one after the other
pub data GivesAll {O : Type 0} (Gives : O → Reply → O → Type 0) : O → List Frame → List Reply → O → Type 0 where
  none_yet : (outlet : O) → GivesAll Gives outlet [] [] outlet
  one_more : {old mid new : O} {frames : List Frame} {replies : List Reply} (frame : Frame) (reply : Reply)
      → GivesAll Gives old frames replies mid → Gives mid reply new → GivesAll Gives old (frames ++ frame ∷ []) (replies ++ reply ∷ []) new

-- whatever came before, these frames and replies lead on from there
pub record LeadsTo {Start X : Type 0} (Reached After : Start → List Frame → List Reply → X → Type 0) (old : X) (frames : List Frame) (replies : List Reply) (new : X) : Type 0 where
  pub from : (start : Start) (before : List Frame) (answered : List Reply) → Reached start before answered old → After start (before ++ frames) (answered ++ replies) new

-- the frames at the front were answered, each before the next, and each reply was given
pub record Answered {O Start X : Type 0} (kinds : ℕ) (Gives : O → Reply → O → Type 0) (Reached : Start → List Frame → List Reply → X → Type 0) (old new : Desk O X) : Type 0 where
  pub frames : List Frame
  pub replies : List Reply
  pub split : Splits kinds old.feed.left frames new.feed.left
  pub kinds_are : new.feed.kinds ≡ old.feed.kinds
  pub fed : fed_to new.feed ≡ fed_to old.feed
  pub given : GivesAll Gives old.outlet frames replies new.outlet
  pub leads : LeadsTo Reached Reached old.now frames replies new.now

-- one frame was answered
pub record AnswersOne {O Start X : Type 0} (kinds : ℕ) (Gives : O → Reply → O → Type 0) (Ready : X → Type 0) (Reached : Start → List Frame → List Reply → X → Type 0) (old new : Desk O X) : Type 0 where
  pub answered : Answered kinds Gives Reached old new
  pub ready : Ready new.now
  pub less : length new.feed.left < length old.feed.left

-- all whole frames were answered
pub record HaltsAtPart {O Start X : Type 0} (kinds : ℕ) (Gives : O → Reply → O → Type 0) (Ready : X → Type 0) (Reached : Start → List Frame → List Reply → X → Type 0) (old new : Desk O X) : Type 0 where
  pub answered : Answered kinds Gives Reached old new
  pub ready : Ready new.now
  pub partial : IsPartialFrame kinds new.feed.left

-- what is left begins no frame
pub record HaltsAtBad {O Start X : Type 0} (kinds : ℕ) (Gives : O → Reply → O → Type 0) (Ready : X → Type 0) (Reached : Start → List Frame → List Reply → X → Type 0) (old new : Desk O X) (offset : ℕ) : Type 0 where
  pub answered : Answered kinds Gives Reached old new
  pub ready : Ready new.now
  pub bad : IsBadFrame kinds new.feed.left
  pub offset_is : offset ≡ new.feed.offset

-- No frame is answered behind the last one: of its reply this is so, and there it led.
pub record HaltsBehind {O Start X : Type 0} (kinds : ℕ) (Gives Last : O → Reply → O → Type 0) (Reached After : Start → List Frame → List Reply → X → Type 0) (old new : Desk O X) : Type 0 where
  pub frames : List Frame
  pub replies : List Reply
  pub frame : Frame
  pub reply : Reply
  pub mid : O
  pub split : Splits kinds old.feed.left (frames ++ frame ∷ []) new.feed.left
  pub given : GivesAll Gives old.outlet frames replies mid
  pub last : Last mid reply new.outlet
  pub leads : LeadsTo Reached After old.now (frames ++ frame ∷ []) (replies ++ reply ∷ []) new.now

-- the reply was given, or it wasn't, and then no more are
abbrev pub GivesOne : {O E : Type 0} (Gives Refuses : O → Reply → O → Type 0) (old : O) (reply : Reply) (new : O) → Result (Unit {0}) E → Type 0
GivesOne Gives Refuses old reply new (Ok done) = Gives old reply new
GivesOne Gives Refuses old reply new (Err e) = Refuses old reply new

-- of replies that are given, of one that isn't, and of one that ends the run
abbrev pub AnswersAll : {O Start X : Type 0} (kinds : ℕ) (Gives Refuses GivesLast : O → Reply → O → Type 0) (Ready : X → Type 0) (Reached Broken : Start → List Frame → List Reply → X → Type 0)
    (old new : Desk O X) → Halted → Type 0
AnswersAll kinds Gives Refuses GivesLast Ready Reached Broken old new Partial = HaltsAtPart kinds Gives Ready Reached old new
AnswersAll kinds Gives Refuses GivesLast Ready Reached Broken old new (Bad offset) = HaltsAtBad kinds Gives Ready Reached old new offset
AnswersAll kinds Gives Refuses GivesLast Ready Reached Broken old new Undelivered = HaltsBehind kinds Gives Refuses Reached Reached old new
AnswersAll kinds Gives Refuses GivesLast Ready Reached Broken old new Ended = HaltsBehind kinds Gives GivesLast Reached Broken old new

abbrev pub AnswersNext : {O Start X A : Type 0} (kinds : ℕ) (Gives Refuses GivesLast : O → Reply → O → Type 0) (Ready : X → Type 0) (Reached Broken : Start → List Frame → List Reply → X → Type 0)
    (old new : Desk O X) → Result A Halted → Type 0
AnswersNext kinds Gives Refuses GivesLast Ready Reached Broken old new (Ok done) = AnswersOne kinds Gives Ready Reached old new
AnswersNext kinds Gives Refuses GivesLast Ready Reached Broken old new (Err halted) = AnswersAll kinds Gives Refuses GivesLast Ready Reached Broken old new halted
