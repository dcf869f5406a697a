-- What the writes of a journal leave at each moment.
use Rattle.std.specs.Prelude.{◌≡◌, ◌≢◌, ◌⊎◌, ℕ, ◌<◌, ◌≤◌, IsTrue, List, [], ◌∷◌, length, slice_index}
use Rattle.disk_model.specs.FileState.{FileState, IsFileImage, put}
use Rattle.disk_model.specs.Moments.{Files}
use Rattle.disk_model.specs.Changes.{Changes, AfterSync, LeavesOthers, StaysSettled}
use Rattle.gate_journal.specs.Gate.{ClosedAfter}

-- the first n bytes stay as they were: what is settled of them stays so
pub record KeepsBelow (n : ℕ) (old new : FileState) : Type 0 where
  pub kept : (p : ℕ) → p < n → IsTrue (old.settled p) → StaysSettled old new p
  pub no_shorter : old.least ≤ new.least

-- each byte but the one at this place is settled, and the file has these bytes there
pub record IsSettledBut (gate : ℕ) (bytes : List ℕ) (file : FileState) : Type 0 where
  pub settled : (p : ℕ) → p < length bytes → p ≢ gate → IsTrue (file.settled p)
  pub same : (p : ℕ) → p < length bytes → p ≢ gate → slice_index file.bytes p ≡ slice_index bytes p
  pub no_shorter : length bytes ≤ file.least
  pub no_longer : file.greatest ≤ length bytes

-- A crash at this moment leaves the journal with its text as before or as after, and no other file has changed.
pub record IsBeforeOrAfter (file : ℕ) (before after : List ℕ) (old files : Files) : Type 0 where
  pub image : (image : List ℕ) → IsFileImage (files file) image → ClosedAfter before image ⊎ ClosedAfter after image
  pub others : LeavesOthers file old files

-- While a gate is opened: nothing but a sync has come to the file, or each byte but the gate's is settled.
abbrev pub OpensSettled : ℕ → ℕ → List ℕ → Files → Files → Type 0
OpensSettled file gate bytes old files = Changes file AfterSync old files ⊎ Changes file (λ _ new. IsSettledBut gate bytes new) old files

-- the file with its gate open, or with another byte there: then the gate is closed
abbrev pub IsOpenedOrClosed : ℕ → List ℕ → List ℕ → Type 0
IsOpenedOrClosed gate bytes image = (image ≡ put bytes gate (1 ∷ [])) ⊎ ((byte : ℕ) × (byte ≢ 1) × (image ≡ put bytes gate (byte ∷ [])))

-- A crash at this moment leaves the file with its gate open or closed, and no other byte changed; no other file
-- has changed.
pub record HoldsGate (file gate : ℕ) (bytes : List ℕ) (old files : Files) : Type 0 where
  pub image : (image : List ℕ) → IsFileImage (files file) image → IsOpenedOrClosed gate bytes image
  pub others : LeavesOthers file old files
