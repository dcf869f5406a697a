-- What contracts see of a source, and what a read does.
use Rattle.std.specs.Prelude.{ℕ, ◌<◌, ◌≤◌, ◌≡◌, Bool, true, false, List, length, take, Option, Result, Ok, Err}
use Rattle.std.specs.Io.KnownBytes.{Consumes, IsAtEnd, Keeps}
use Rattle.fault_counts.specs.Faults.{Faults, NeverFell, Rose}
use Rattle.byte_io.specs.declared.errors.Failed.{Failed}

-- the bytes left, where it tells them; its faults; whether the last read failed
pub record SourceSeen : Type 0 where
  pub left : Option (List ℕ)
  pub faults : Faults
  pub failed : Bool

-- the read gave so many bytes: they stand at the front of the buffer now. It gave none only at the end, or where
-- the buffer has no room
pub record ReadsSome (old new : SourceSeen) (buffer : List ℕ) (n : ℕ) : Type 0 where
  pub bound : n ≤ length buffer
  pub bytes : Consumes old.left new.left (take n buffer)
  pub ended : n ≡ 0 → 0 < length buffer → IsAtEnd new.left
  pub worked : new.failed ≡ false
  pub later : NeverFell old.faults new.faults

-- the read gave nothing, and there was a fault
pub record ReadFails (old new : SourceSeen) : Type 0 where
  pub kept : Keeps old.left new.left
  pub failed : new.failed ≡ true
  pub later : NeverFell old.faults new.faults
  pub rose : Rose old.faults new.faults

abbrev pub Reads : SourceSeen → SourceSeen → List ℕ → Result ℕ Failed → Type 0
Reads old new buffer (Ok n) = ReadsSome old new buffer n
Reads old new buffer (Err e) = ReadFails old new
