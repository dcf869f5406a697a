-- What came of a piece of a client's stream.
use Rattle.std.specs.Prelude.{◌≡◌, ℕ, ◌<◌, List, [], ◌∷◌, ◌++◌, length, Option, Some, None, Result, Ok, Err}
use Rattle.byte_io.specs.Port.{Note, stream_closed, PortSeen, Notes}
use Rattle.dns_tcp.specs.Messages.{Messages, IsPartialMessage}
use Rattle.dns_tcp.specs.Streams.{Stream, MayHold, IsWaiting, Takes, left_or_nothing, with_left}
use Rattle.feed_frames.specs.Frames.{Frame}
use Rattle.feed_frames.specs.Replies.{Reply}
use Rattle.frame_loop.specs.Answering.{LeadsTo}
use Rattle.port_loop.specs.Polls.{stream_query_of, stream_queries}
use Rattle.port_loop.specs.Sends.{to_stream, Replied}
use Rattle.port_loop.specs.Answering.{held, AnswersFrame}

-- a port, the clients' streams, and what answers, with its world
pub record Counter (X : Type 0) : Type 0 where
  pub port : PortSeen
  pub streams : List Stream
  pub now : X

abbrev pub counter : {X : Type 0} → PortSeen → List Stream → X → Counter X
counter port streams now = record { port = port; streams = streams; now = now }

-- the client's next message was answered, and its reply sent
pub record AnswersMessage {Start X : Type 0} (Reached After : Start → List Frame → List Reply → X → Type 0) (client : ℕ) (old new : Counter X) : Type 0 where
  pub message : List ℕ
  pub takes : Takes client old.streams message new.streams
  pub answered : AnswersFrame Reached After (to_stream client) (stream_query_of message) (held old.port old.now) (held new.port new.now)

-- the same, and the next may be answered
pub record MayGoOnWith {Start X : Type 0} (Ready : X → Type 0) (Reached : Start → List Frame → List Reply → X → Type 0) (client : ℕ) (old new : Counter X) : Type 0 where
  pub one : AnswersMessage Reached Reached client old new
  pub ready : Ready new.now

-- no whole message of the client is left, and nothing was done
pub record FindsNone {X : Type 0} (client : ℕ) (old new : Counter X) : Type 0 where
  pub same : new ≡ old
  pub waiting : IsWaiting client old.streams

abbrev pub AnswersNextMessage : {Start X A E : Type 0} (Ready : X → Type 0) (Reached Broken : Start → List Frame → List Reply → X → Type 0) (client : ℕ) (old new : Counter X) → Option (Result A E) → Type 0
AnswersNextMessage Ready Reached Broken client old new None = FindsNone client old new
AnswersNextMessage Ready Reached Broken client old new (Some (Ok done)) = MayGoOnWith Ready Reached client old new
AnswersNextMessage Ready Reached Broken client old new (Some (Err over)) = AnswersMessage Reached Broken client old new

-- of these bytes of a client's the messages at the front were answered, each before the next, and each reply was sent; the rest is left
pub record AnswersMessages {Start X : Type 0} (Reached After : Start → List Frame → List Reply → X → Type 0) (client : ℕ) (bytes : List ℕ) (old new : Counter X) : Type 0 where
  pub messages : List (List ℕ)
  pub rest : List ℕ
  pub split : Messages bytes messages rest
  pub streams_are : new.streams ≡ with_left client rest old.streams
  pub replies : List Reply
  pub sends : List Note
  pub replied : Replied (to_stream client) (stream_queries messages) replies sends
  pub noted : Notes old.port new.port sends
  pub leads : LeadsTo Reached After old.now (stream_queries messages) replies new.now

-- all whole messages were answered
pub record AnswersWhole {Start X : Type 0} (Ready : X → Type 0) (Reached : Start → List Frame → List Reply → X → Type 0) (client : ℕ) (bytes : List ℕ) (old new : Counter X) : Type 0 where
  pub answered : AnswersMessages Reached Reached client bytes old new
  pub partial : IsPartialMessage answered.rest
  pub ready : Ready new.now

-- some were, the last with the reply that ended the run
pub record AnswersFirst {Start X : Type 0} (Reached Broken : Start → List Frame → List Reply → X → Type 0) (client : ℕ) (bytes : List ℕ) (old new : Counter X) : Type 0 where
  pub answered : AnswersMessages Reached Broken client bytes old new
  pub some : 0 < length answered.messages

abbrev pub AnswersAllOf : {Start X A E : Type 0} (Ready : X → Type 0) (Reached Broken : Start → List Frame → List Reply → X → Type 0) (client : ℕ) (bytes : List ℕ) (old new : Counter X) → Result A E → Type 0
AnswersAllOf Ready Reached Broken client bytes old new (Ok done) = AnswersWhole Ready Reached client bytes old new
AnswersAllOf Ready Reached Broken client bytes old new (Err over) = AnswersFirst Reached Broken client bytes old new

-- the client can't be held, and was let go
pub record LetsGo {X : Type 0} (client : ℕ) (old new : Counter X) : Type 0 where
  pub full : ¬ (MayHold client old.streams)
  pub noted : Notes old.port new.port (stream_closed client ∷ [])
  pub streams_are : new.streams ≡ old.streams
  pub now_is : new.now ≡ old.now

-- all whole messages were answered, those of the bytes that were left and of the piece; or the client was let go
pub data TakesPiece {Start X : Type 0} (Ready : X → Type 0) (Reached : Start → List Frame → List Reply → X → Type 0) (client : ℕ) (piece : List ℕ) (old new : Counter X) : Type 0 where
  takes : MayHold client old.streams → AnswersWhole Ready Reached client (left_or_nothing client old.streams ++ piece) old new → TakesPiece Ready Reached client piece old new
  lets_go : LetsGo client old new → TakesPiece Ready Reached client piece old new

-- some were, the last with the reply that ended the run
pub record BreaksIn {Start X : Type 0} (Reached Broken : Start → List Frame → List Reply → X → Type 0) (client : ℕ) (piece : List ℕ) (old new : Counter X) : Type 0 where
  pub may_hold : MayHold client old.streams
  pub first : AnswersFirst Reached Broken client (left_or_nothing client old.streams ++ piece) old new

abbrev pub AnswersStream : {Start X A E : Type 0} (Ready : X → Type 0) (Reached Broken : Start → List Frame → List Reply → X → Type 0) (client : ℕ) (piece : List ℕ) (old new : Counter X) → Result A E → Type 0
AnswersStream Ready Reached Broken client piece old new (Ok done) = TakesPiece Ready Reached client piece old new
AnswersStream Ready Reached Broken client piece old new (Err over) = BreaksIn Reached Broken client piece old new
