-- Where replies go.
use Rattle.std.specs.Prelude.{ℕ, Bool, map, ◌==◌, if◌then◌else◌, List, [], ◌∷◌, ◌++◌}
use Rattle.std.proofs.Common.{◌∙◌}
use Rattle.byte_io.specs.Port.{Note, replied, stream_replied, stream_closed, fed_back, closed, Got, datagram, stream, stream_end, piece, feed_end, nothing, fault, PortSeen, IsBound, Notes}
use Rattle.dns_tcp.specs.Messages.{message_text}
use Rattle.feed_frames.specs.Frames.{Frame}
use Rattle.feed_frames.specs.Replies.{Reply, reply_text}
use Rattle.port_loop.specs.Polls.{Closing, the_feed, the_stream}
use Rattle.port_loop.specs.declared.sending.TheConstants.{DROPPED}
use Rattle.port_loop.specs.declared.sending.Destination.{Destination}
use Rattle.port_loop.specs.declared.sending.Destination.TheVariants.{Client, Stream, Feed}

-- the payload alone, to the client. The code of a dropped query sends nothing
abbrev pub to_client : ℕ → Reply → Bool → List Note
to_client client reply is_sent = if reply.code == DROPPED then [] else (replied client reply.payload is_sent ∷ [])

-- the payload behind its length, to the client over its stream (RFC 1035, 4.2.2). The code of a dropped query sends nothing
abbrev pub to_stream : ℕ → Reply → Bool → List Note
to_stream client reply is_sent = if reply.code == DROPPED then [] else (stream_replied client (message_text reply.payload) is_sent ∷ [])

-- the whole reply, to the feed
abbrev pub to_feed : Reply → Bool → List Note
to_feed reply is_sent = fed_back (reply_text reply) is_sent ∷ []

abbrev pub sends_to : Destination → Reply → Bool → List Note
sends_to (Client client) = to_client client
sends_to (Stream client) = to_stream client
sends_to Feed = to_feed

abbrev pub to_nobody : Reply → Bool → List Note
to_nobody reply is_sent = []

-- what is sent for a reply to a poll's frame, and whether it was sent or failed
abbrev pub sends_of : Got → Reply → Bool → List Note
sends_of (datagram client message) = to_client client
sends_of (stream client bytes) = to_stream client
sends_of (stream_end client) = to_nobody
sends_of (piece bytes) = to_feed
sends_of feed_end = to_nobody
sends_of nothing = to_nobody
sends_of fault = to_nobody

-- frames, one reply to each, and the sends for these replies, in one order
pub data Replied (sends : Reply → Bool → List Note) : List Frame → List Reply → List Note → Type 0 where
  none : Replied sends [] [] []
  one : (frame : Frame) (reply : Reply) (is_sent : Bool) (frames : List Frame) (replies : List Reply) (notes : List Note)
      → Replied sends frames replies notes → Replied sends (frame ∷ frames) (reply ∷ replies) (sends reply is_sent ++ notes)

-- what is asked for what is to be closed
abbrev pub closing : Closing → Note
closing the_feed = closed
closing (the_stream client) = stream_closed client

abbrev pub closings : List Closing → List Note
closings = map closing

-- a reply was sent, or the send failed
pub record SendsOne (old new : PortSeen) (sends : Bool → List Note) : Type 0 where
  pub is_sent : Bool
  pub noted : Notes old new (sends is_sent)

-- so to the feed
abbrev pub SendsToFeed : PortSeen → Reply → PortSeen → Type 0
SendsToFeed old reply new = SendsOne old new (to_feed reply)

-- a port to whose feed a reply was sent stays bound
pub bound_behind : (old : PortSeen) (reply : Reply) (new : PortSeen) → SendsToFeed old reply new → IsBound old → IsBound new
bound_behind old reply new sent bound = record { numbers = bound.numbers; are = sent.noted.bound ∙ bound.are }
