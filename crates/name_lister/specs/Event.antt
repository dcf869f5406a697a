-- What a listing run is asked to do: one whole frame each.
use Rattle.std.specs.Prelude.{ℕ, []}
use Rattle.std.specs.Int.{w32, to_le_bytes}
use Rattle.chain_commands.specs.Event.{Event, event_frame}
use Rattle.feed_frames.specs.Frames.{Frame}

pub data ListEvent : Type 0 where
  -- what any run may be asked
  Plain : Event → ListEvent
  -- a listing of the names as they are now is to be opened
  Open : ListEvent
  -- the next page of the listing session of this number is asked for
  Page : ℕ → ListEvent
  -- it is to be closed
  Close : ℕ → ListEvent
  -- a save in slices is to begin
  Begin : ListEvent
  -- the next slice of that save, of so many bytes
  Slice : ℕ → ListEvent

-- the kinds of frames that are such events are those up to this number
abbrev pub last_list_kind : ℕ
last_list_kind = 9

-- a session's number and the bytes of a slice take 4 bytes, low byte first
abbrev pub list_frame : ListEvent → Frame
list_frame (Plain event) = event_frame event
list_frame Open = record { kind = 5; payload = [] }
list_frame (Page number) = record { kind = 6; payload = to_le_bytes w32 number }
list_frame (Close number) = record { kind = 7; payload = to_le_bytes w32 number }
list_frame Begin = record { kind = 8; payload = [] }
list_frame (Slice asked) = record { kind = 9; payload = to_le_bytes w32 asked }
