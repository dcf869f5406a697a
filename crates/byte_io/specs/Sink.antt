-- What contracts see of a sink, and what a write does.
use Rattle.std.specs.Prelude.{ℕ, ◌<◌, ◌≤◌, ◌≡◌, ◌↔◌, Bool, true, false, IsTrue, List, length, take, Option, Result, Ok, Err}
use Rattle.std.specs.Io.KnownBytes.{Appends, Keeps}
use Rattle.fault_counts.specs.Counts.{raised}
use Rattle.fault_counts.specs.Faults.{Faults, NeverFell, Rose}
use Rattle.byte_io.specs.declared.errors.Failed.{Failed}

-- the bytes taken, where it tells them; its faults; whether the last write failed, whether it took nothing of a
-- piece that isn't empty, and how many writes did so
pub record SinkSeen : Type 0 where
  pub taken : Option (List ℕ)
  pub faults : Faults
  pub failed : Bool
  pub stalled : Bool
  pub stalls : ℕ

-- the write took so many bytes from the front of the piece
pub record WritesSome (old new : SinkSeen) (piece : List ℕ) (n : ℕ) : Type 0 where
  pub bound : n ≤ length piece
  pub bytes : Appends old.taken new.taken (take n piece)
  pub stalled : IsTrue new.stalled ↔ ((n ≡ 0) × (0 < length piece))
  pub moving : 0 < n → new.stalls ≡ old.stalls
  pub stuck : IsTrue new.stalled → new.stalls ≡ raised old.stalls
  pub worked : new.failed ≡ false
  pub later : NeverFell old.faults new.faults

-- the write took nothing, and there was a fault
pub record WriteFails (old new : SinkSeen) : Type 0 where
  pub kept : Keeps old.taken new.taken
  pub stalled : new.stalled ≡ false
  pub stalls : new.stalls ≡ old.stalls
  pub failed : new.failed ≡ true
  pub later : NeverFell old.faults new.faults
  pub rose : Rose old.faults new.faults

abbrev pub Writes : SinkSeen → SinkSeen → List ℕ → Result ℕ Failed → Type 0
Writes old new piece (Ok n) = WritesSome old new piece n
Writes old new piece (Err e) = WriteFails old new
