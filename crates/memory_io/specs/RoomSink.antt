-- What contracts see of the sink with a fixed room.
use Rattle.std.specs.Prelude.{ℕ, List, [], Bool, Some, false}
use Rattle.fault_counts.specs.Faults.{no_faults}
use Rattle.byte_io.specs.Sink.{SinkSeen}

-- the bytes taken, how many there is room for in all, and whether the last write took nothing of a
-- piece that isn't empty, and how many writes did so
pub record RoomView : Type 0 where
  pub taken : List ℕ
  pub room : ℕ
  pub stalled : Bool
  pub stalls : ℕ

-- before any write
abbrev pub empty_room : ℕ → RoomView
empty_room room = record { taken = []; room = room; stalled = false; stalls = 0 }

abbrev pub room_seen : RoomView → SinkSeen
room_seen s = record { taken = Some s.taken; faults = no_faults; failed = false; stalled = s.stalled; stalls = s.stalls }
