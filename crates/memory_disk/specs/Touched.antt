-- What calls that failed touched of a file, where they are kept together and not one by one.
use Rattle.std.specs.Prelude.{ℕ, ◌≤◌, ◌&&◌, if◌then◌else◌, Bool, false, IsTrue, nat_lt, min, max, List, [], slice_index_or}
use Rattle.disk_model.specs.FileState.{FileState}

-- whether no write touched the position, for each (none past the end of the list); the shortest length of a cut;
-- and the farthest end of a write
pub record Touched : Type 0 where
  pub outside : List Bool
  pub least : ℕ
  pub greatest : ℕ

-- none of the calls touched the position
abbrev pub leaves : Touched → ℕ → Bool
leaves touched p = slice_index_or touched.outside p false && nat_lt p touched.least

-- the file after them
abbrev pub touch : Touched → FileState → FileState
touch touched s = record {
  bytes = s.bytes;
  settled = λ p. s.settled p && leaves touched p;
  least = min s.least touched.least;
  greatest = max s.greatest touched.greatest;
}

-- what they touched of one of the files
abbrev pub touched_at : List Touched → ℕ → Touched
touched_at files file = slice_index_or files file (record { outside = []; least = 0; greatest = 0 })

-- each file in use after them
abbrev pub touch_each : List Touched → (ℕ → FileState) → ℕ → FileState
touch_each touched files file = if nat_lt file 3 then touch (touched_at touched file) (files file) else files file

-- nothing was touched of this file so far
pub record LeavesAll (touched : Touched) (s : FileState) : Type 0 where
  pub settled : (p : ℕ) → IsTrue (s.settled p) → IsTrue (leaves touched p)
  pub least : s.least ≤ touched.least
  pub greatest : touched.greatest ≤ s.greatest
