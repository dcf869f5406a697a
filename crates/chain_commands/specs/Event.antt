-- What the machine is asked to do: one whole frame each, or a message of DNS over a stream.
use Rattle.std.specs.Prelude.{List, [], ℕ}
use Rattle.feed_frames.specs.Frames.{Frame}

-- what changes the chain, where it is accepted
pub data Command : Type 0 where
  -- the bytes of a block that is to join the chain
  Connect : List ℕ → Command
  -- the hash of the newest block, which is to leave the chain
  Disconnect : List ℕ → Command

-- what carries a message of DNS, and its reply (RFC 1035, 4.2)
pub data Carrier : Type 0 where
  Datagram : Carrier
  Stream : Carrier

pub data Event : Type 0 where
  Do : Command → Event
  -- a message of DNS that is to be answered
  Ask : Carrier → List ℕ → Event
  -- the index is to be saved
  Save : Event

-- the kinds of frames that are events are those up to this number
abbrev pub last_kind : ℕ
last_kind = 4

-- the kind of a message's frame. A frame of kind 3 has what a datagram brings; no frame of the feed has kind 0
abbrev pub query_kind : Carrier → ℕ
query_kind Datagram = 3
query_kind Stream = 0

-- each kind of frame is one kind of event
abbrev pub event_frame : Event → Frame
event_frame (Do (Connect block)) = record { kind = 1; payload = block }
event_frame (Do (Disconnect hash)) = record { kind = 2; payload = hash }
event_frame (Ask carrier message) = record { kind = query_kind carrier; payload = message }
event_frame Save = record { kind = 4; payload = [] }
