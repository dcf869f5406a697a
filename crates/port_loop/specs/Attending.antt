-- What came of one poll.
use Rattle.std.specs.Prelude.{◌≡◌, ℕ, ◌+◌, ◌≤◌, List, [], ◌∷◌, Result, Ok, Err}
use Rattle.byte_io.specs.Port.{Note, closed, PortSeen, Notes}
use Rattle.byte_io.specs.declared.port.TheConstants.{POLL_ROOM}
use Rattle.feed_frames.specs.Frames.{Frame, IsPartialFrame}
use Rattle.feed_frames.specs.Feed.{Feed, fresh_feed}
use Rattle.feed_frames.specs.Replies.{Reply}
use Rattle.dns_tcp.specs.Streams.{Stream}
use Rattle.port_loop.specs.Polls.{Parts, AreParts}
use Rattle.frame_loop.specs.Answering.{Desk, desk, fed_to, LeadsTo, HaltsAtPart, HaltsAtBad, HaltsBehind}
use Rattle.port_loop.specs.Sends.{SendsToFeed}
use Rattle.port_loop.specs.Transcript.{DealsWith, BreaksOff}

-- where the loop stands: the port, the bytes of the feed and of clients' streams that aren't answered, and what answers, with its world
pub record Station (X : Type 0) : Type 0 where
  pub port : PortSeen
  pub feed : Feed
  pub streams : List Stream
  pub now : X

abbrev pub station : {X : Type 0} → PortSeen → Feed → List Stream → X → Station X
station port feed streams now = record { port = port; feed = feed; streams = streams; now = now }

-- the bytes that are a part of a frame or a message
abbrev pub parts_of : {X : Type 0} → Station X → Parts
parts_of here = record { feed = here.feed.left; streams = here.streams }

-- all whole frames of the feed were answered; and where a bad frame follows, the feed was closed and what it brought forgotten
pub data GoesThrough {Start X : Type 0} (kinds : ℕ) (Ready : X → Type 0) (Reached : Start → List Frame → List Reply → X → Type 0) (old new : Desk PortSeen X) : Type 0 where
  waits : HaltsAtPart kinds SendsToFeed Ready Reached old new → GoesThrough kinds Ready Reached old new
  closes : (port : PortSeen) (feed : Feed) (offset : ℕ) → HaltsAtBad kinds SendsToFeed Ready Reached old (desk port feed new.now) offset → Notes port new.outlet (closed ∷ []) → new.feed ≡ fresh_feed feed.kinds → GoesThrough kinds Ready Reached old new

abbrev pub AnswersPiece : {Start X A E : Type 0} (kinds : ℕ) (Ready : X → Type 0) (Reached Broken : Start → List Frame → List Reply → X → Type 0) (old new : Desk PortSeen X) → Result A E → Type 0
AnswersPiece kinds Ready Reached Broken old new (Ok done) = GoesThrough kinds Ready Reached old new
AnswersPiece kinds Ready Reached Broken old new (Err over) = HaltsBehind kinds SendsToFeed SendsToFeed Reached Broken old new

-- one poll was made and dealt with, and the next may be made
pub record Deals {Start X : Type 0} (kinds : ℕ) (Ready : X → Type 0) (Reached : Start → List Frame → List Reply → X → Type 0) (old new : Station X) : Type 0 where
  pub frames : List Frame
  pub replies : List Reply
  pub notes : List Note
  pub deals : DealsWith kinds (parts_of old) (parts_of new) frames replies notes
  pub noted : Notes old.port new.port notes
  pub leads : LeadsTo Reached Reached old.now frames replies new.now
  pub ready : Ready new.now
  pub partial : IsPartialFrame kinds new.feed.left
  pub parts : AreParts new.streams
  pub kinds_are : new.feed.kinds ≡ old.feed.kinds
  pub fed : fed_to new.feed ≤ fed_to old.feed + POLL_ROOM

-- one poll was made, and one of its replies ended the run
pub record Breaks {Start X : Type 0} (kinds : ℕ) (Reached Broken : Start → List Frame → List Reply → X → Type 0) (old new : Station X) : Type 0 where
  pub frames : List Frame
  pub replies : List Reply
  pub notes : List Note
  pub breaks : BreaksOff kinds (parts_of old) frames replies notes
  pub noted : Notes old.port new.port notes
  pub leads : LeadsTo Reached Broken old.now frames replies new.now

abbrev pub AnswersPoll : {Start X A E : Type 0} (kinds : ℕ) (Ready : X → Type 0) (Reached Broken : Start → List Frame → List Reply → X → Type 0) (old new : Station X) → Result A E → Type 0
AnswersPoll kinds Ready Reached Broken old new (Ok done) = Deals kinds Ready Reached old new
AnswersPoll kinds Ready Reached Broken old new (Err over) = Breaks kinds Reached Broken old new
