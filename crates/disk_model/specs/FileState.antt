-- One file between two syncs, and what a crash may leave of it.
use Rattle.std.specs.Prelude.{◌≡◌, ℕ, ◌+◌, ◌<◌, ◌≤◌, Bool, IsTrue, nat_lt, List, ◌++◌, length, take, drop, slice_index}

-- What reads give; which positions no write and no cut has touched since the file's last successful sync;
-- and the least and the greatest length since that sync.
pub record FileState : Type 0 where
  pub bytes : List ℕ
  pub settled : ℕ → Bool
  pub least : ℕ
  pub greatest : ℕ

-- A crash now may leave this of the file: a length between the two, and every settled byte.
pub record IsFileImage (file : FileState) (image : List ℕ) : Type 0 where
  pub no_shorter : file.least ≤ length image
  pub no_longer : length image ≤ file.greatest
  pub inside : (p : ℕ) → IsTrue (file.settled p) → p < length image
  pub kept : (p : ℕ) → IsTrue (file.settled p) → slice_index image p ≡ slice_index file.bytes p

-- Every byte of the file is settled, and its length too.
pub record IsSettled (file : FileState) : Type 0 where
  pub each : (p : ℕ) → p < length file.bytes → IsTrue (file.settled p)
  pub no_shorter : length file.bytes ≤ file.least
  pub no_longer : file.greatest ≤ length file.bytes

-- a file of these bytes after a sync
abbrev pub synced_file : List ℕ → FileState
synced_file bytes = record {
  bytes = bytes;
  settled = λ p. nat_lt p (length bytes);
  least = length bytes;
  greatest = length bytes;
}

-- these bytes put over old from a position on, and past its end
abbrev pub put : List ℕ → ℕ → List ℕ → List ℕ
put old at bytes = take at old ++ (bytes ++ drop (at + length bytes) old)
