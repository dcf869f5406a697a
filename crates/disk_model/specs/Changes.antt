-- What a call may do to a file by each moment of it, done, in part or failed: what stays settled, and how far
-- the length may go.
use Rattle.std.specs.Prelude.{◌≡◌, ◌≢◌, ℕ, ◌+◌, ◌<◌, ◌≤◌, max, min, IsTrue, slice_index}
use Rattle.disk_model.specs.FileState.{FileState}
use Rattle.disk_model.specs.Moments.{Files}

-- the position is settled still, and holds the same byte
pub record StaysSettled (old new : FileState) (p : ℕ) : Type 0 where
  pub settled : IsTrue (new.settled p)
  pub same : slice_index new.bytes p ≡ slice_index old.bytes p

-- a write of n bytes at a position
pub record AfterWrite (at n : ℕ) (old new : FileState) : Type 0 where
  pub before : (p : ℕ) → p < at → IsTrue (old.settled p) → StaysSettled old new p
  pub behind : (p : ℕ) → at + n ≤ p → IsTrue (old.settled p) → StaysSettled old new p
  pub no_shorter : old.least ≤ new.least
  pub no_longer : new.greatest ≤ max old.greatest (at + n)

-- a cut to n bytes
pub record AfterCut (n : ℕ) (old new : FileState) : Type 0 where
  pub before : (p : ℕ) → p < n → IsTrue (old.settled p) → StaysSettled old new p
  pub no_shorter : min old.least n ≤ new.least
  pub no_longer : new.greatest ≤ old.greatest

-- a sync: what was settled stays so
pub record AfterSync (old new : FileState) : Type 0 where
  pub kept : (p : ℕ) → IsTrue (old.settled p) → StaysSettled old new p
  pub no_shorter : old.least ≤ new.least
  pub no_longer : new.greatest ≤ old.greatest

-- all that was settled of each file is settled still, and no file may be longer or shorter than before: as syncs leave them
abbrev pub KeepsSettled : Files → Files → Type 0
KeepsSettled old new = (file : ℕ) → AfterSync (old file) (new file)

-- the files but this one are as they were
abbrev pub LeavesOthers : ℕ → Files → Files → Type 0
LeavesOthers file old new = (other : ℕ) → other ≢ file → new other ≡ old other

-- the files from this one on are as they were
abbrev pub LeavesFrom : ℕ → Files → Files → Type 0
LeavesFrom first old new = (file : ℕ) → first ≤ file → new file ≡ old file

-- this file has changed so, and the others are as they were
pub record Changes (file : ℕ) (change : FileState → FileState → Type 0) (old new : Files) : Type 0 where
  pub here : change (old file) (new file)
  pub others : LeavesOthers file old new

-- each file is as it was
abbrev pub Unchanged : Files → Files → Type 0
Unchanged old new = new ≡ old
