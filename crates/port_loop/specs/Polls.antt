-- What a poll brings: the frames of datagrams, of clients' streams and of a feed.
use Rattle.std.specs.Prelude.{ℕ, map, List, [], ◌∷◌, ◌++◌}
use Rattle.byte_io.specs.Port.{Got, datagram, stream, stream_end, piece, feed_end, nothing, fault}
use Rattle.std.specs.List.{AllByRecursion}
use Rattle.dns_tcp.specs.Messages.{Messages, IsPartialMessage}
use Rattle.dns_tcp.specs.Streams.{Stream, MayHold, left_or_nothing, with_left, without}
use Rattle.feed_frames.specs.Frames.{Frame, Splits, IsBadFrame, IsPartialFrame}
use Rattle.frame_loop.specs.declared.answerer.TheConstants.{QUERY, STREAM_QUERY}

-- the frame of a datagram: a query, whose payload is the whole message
abbrev pub query_of : List ℕ → Frame
query_of message = record { kind = QUERY; payload = message }

-- the frame of a message that came over a client's stream, without its length
abbrev pub stream_query_of : List ℕ → Frame
stream_query_of message = record { kind = STREAM_QUERY; payload = message }

abbrev pub stream_queries : List (List ℕ) → List Frame
stream_queries = map stream_query_of

-- the bytes that are a part of a frame or a message, of what brings these in pieces: of the feed, and of each client whose stream is held
pub record Parts : Type 0 where
  pub feed : List ℕ
  pub streams : List Stream

abbrev pub no_parts : Parts
no_parts = record { feed = []; streams = [] }

-- the same, with these of the feed
abbrev pub with_feed : List ℕ → Parts → Parts
with_feed rest part = record { feed = rest; streams = part.streams }

-- the same, with these of the clients
abbrev pub with_streams : List Stream → Parts → Parts
with_streams streams part = record { feed = part.feed; streams = streams }

-- no whole message is left of a client's stream
abbrev pub IsPart : Stream → Type 0
IsPart held = IsPartialMessage held.left

abbrev pub AreParts : List Stream → Type 0
AreParts = AllByRecursion IsPart

-- what is closed: the feed for a bad frame, a client's stream where no more can be held
pub data Closing : Type 0 where
  the_feed : Closing
  the_stream : (client : ℕ) → Closing

-- the frames that a poll brings, where these bytes were parts; the bytes that are parts after it; and what is closed. A piece of a stream
-- joins the client's bytes since it came to be held, and is dropped where it can't be held. A piece of the feed joins the bytes since the
-- feed's last end or bad frame. What stands behind a bad frame in its piece is dropped
pub data Brings (kinds : ℕ) (part : Parts) : Got → List Frame → Parts → List Closing → Type 0 where
  from_client : (client : ℕ) (message : List ℕ) → Brings kinds part (datagram client message) (query_of message ∷ []) part []
  from_stream : (client : ℕ) (bytes : List ℕ) (messages : List (List ℕ)) (rest : List ℕ) → MayHold client part.streams
      → Messages (left_or_nothing client part.streams ++ bytes) messages rest → IsPartialMessage rest
      → Brings kinds part (stream client bytes) (stream_queries messages) (with_streams (with_left client rest part.streams) part) []
  refused : (client : ℕ) (bytes : List ℕ) → ¬ (MayHold client part.streams) → Brings kinds part (stream client bytes) [] part (the_stream client ∷ [])
  at_stream_end : (client : ℕ) → Brings kinds part (stream_end client) [] (with_streams (without client part.streams) part) []
  from_feed : (bytes : List ℕ) (frames : List Frame) (rest : List ℕ) → Splits kinds (part.feed ++ bytes) frames rest → IsPartialFrame kinds rest
      → Brings kinds part (piece bytes) frames (with_feed rest part) []
  at_bad_frame : (bytes : List ℕ) (frames : List Frame) (rest : List ℕ) → Splits kinds (part.feed ++ bytes) frames rest → IsBadFrame kinds rest
      → Brings kinds part (piece bytes) frames (with_feed [] part) (the_feed ∷ [])
  at_end : Brings kinds part feed_end [] (with_feed [] part) []
  at_nothing : Brings kinds part nothing [] part []
  at_fault : Brings kinds part fault [] part []

-- the first frames of a poll, with or without those behind them
pub data BringsFirst (kinds : ℕ) (part : Parts) : Got → List Frame → Type 0 where
  first_from_client : (client : ℕ) (message : List ℕ) → BringsFirst kinds part (datagram client message) (query_of message ∷ [])
  first_from_stream : (client : ℕ) (bytes : List ℕ) (messages : List (List ℕ)) (rest : List ℕ) → MayHold client part.streams
      → Messages (left_or_nothing client part.streams ++ bytes) messages rest → BringsFirst kinds part (stream client bytes) (stream_queries messages)
  first_from_feed : (bytes : List ℕ) (frames : List Frame) (rest : List ℕ) → Splits kinds (part.feed ++ bytes) frames rest → BringsFirst kinds part (piece bytes) frames
