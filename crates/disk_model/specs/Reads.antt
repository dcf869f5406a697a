-- What a disk reads.
use Rattle.std.specs.Prelude.{◌≡◌, ℕ, ◌-◌, min, List, length, take, drop}
use Rattle.disk_model.specs.Moments.{Moments}

-- the bytes that a read of the file gives
abbrev pub seen : Moments → ℕ → List ℕ
seen m file = (m.now file).bytes

-- A read at a position gave n bytes into a buffer of this length: those of the file from there on, fewer
-- than the buffer takes only at the file's end.
pub record IsRead (bytes : List ℕ) (at room n : ℕ) (into : List ℕ) : Type 0 where
  pub count : n ≡ min room (length bytes - at)
  pub same : take n into ≡ take n (drop at bytes)
