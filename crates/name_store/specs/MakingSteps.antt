-- What each step of making the files leaves: the area, the closed gate of the header, what stands behind that gate, and the whole header.
use Rattle.std.specs.Prelude.{◌≡◌, ◌⊎◌, ℕ, ◌≤◌, max, Bool, IsTrue, List, [], ◌∷◌, ◌++◌, Result, OnOk}
use Rattle.disk_model.specs.FileState.{FileState, IsFileImage, IsSettled}
use Rattle.disk_model.specs.Moments.{EachMoment}
use Rattle.disk_model.specs.Changes.{Changes, LeavesOthers}
use Rattle.disk_model.specs.DiskSeen.{DiskSeen, Ends, file_in}
use Rattle.disk_model.specs.declared.disk.Failed.{Failed}
use Rattle.nmc_base.specs.declared.chain_ends.Base.{Base}
use Rattle.gate_journal.specs.Records.{image_front}
use Rattle.gate_journal.specs.Writes.{KeepsBelow}
use Rattle.name_store.specs.Damage.{header_file}
use Rattle.name_store.specs.Header.{IsBegun, IsUninitialised, header_fields, header_text}

-- without a selection the commands are kept in this file
abbrev pub first_area : ℕ
first_area = 1

-- the file has these bytes, and was synced since its last write
pub record HasSettled (bytes : List ℕ) (file : FileState) : Type 0 where
  pub settled : IsSettled file
  pub are : file.bytes ≡ bytes

-- the file has grown by a gate at most
abbrev pub IsShort : FileState → FileState → Type 0
IsShort old new = new.greatest ≤ max old.greatest 1

-- an area with this image and without commands
abbrev pub area_with : List ℕ → List ℕ
area_with image = image_front image ++ 0 ∷ []

-- without an image
abbrev pub empty_area : List ℕ
empty_area = area_with []

-- a header whose gate is closed, and the closed gate behind it
abbrev pub closed_header : Base → List ℕ → List ℕ
closed_header base host = 0 ∷ (header_fields base host ++ 0 ∷ [])

-- a header whose gate is open, and the closed gate behind it
abbrev pub open_header : Base → List ℕ → List ℕ
open_header base host = header_text base host ++ 0 ∷ []

-- a crash leaves the file uninitialised, or with the whole header
abbrev pub IsHeaderOrNone : Base → List ℕ → FileState → Type 0
IsHeaderOrNone base host file = (image : List ℕ) → IsFileImage file image → IsUninitialised image ⊎ (image ≡ open_header base host)

-- the area was made
pub record MakesArea {T : Type 0} (tells : Bool) (old new : DiskSeen) (result : Result T Failed) : Type 0 where
  pub made : IsTrue tells → OnOk result (HasSettled empty_area (file_in new first_area))
  pub any_moment : IsTrue tells → EachMoment (LeavesOthers first_area old.moments.now) old.moments new.moments
  pub ends : Ends old new result

-- the header's file has a closed gate, and nothing behind it
pub record MakesGate {T : Type 0} (tells : Bool) (old new : DiskSeen) (result : Result T Failed) : Type 0 where
  pub made : IsTrue tells → OnOk result (HasSettled (0 ∷ []) (file_in new header_file))
  pub any_moment : IsTrue tells → EachMoment (Changes header_file IsShort old.moments.now) old.moments new.moments
  pub ends : Ends old new result

-- the fields stand behind the header's closed gate, and a closed gate behind them
pub record MakesFields {T : Type 0} (tells : Bool) (base : Base) (host : List ℕ) (old new : DiskSeen) (result : Result T Failed) : Type 0 where
  pub made : IsTrue tells → OnOk result (HasSettled (closed_header base host) (file_in new header_file))
  pub any_moment : IsTrue tells → EachMoment (Changes header_file (KeepsBelow 1) old.moments.now) old.moments new.moments
  pub ends : Ends old new result

-- The header of a base and a host stands in its file. Where that had at most one byte, a crash leaves it uninitialised meanwhile, or with
-- the whole header.
pub record MakesHeader {T : Type 0} (tells : Bool) (base : Base) (host : List ℕ) (old new : DiskSeen) (result : Result T Failed) : Type 0 where
  pub begun : IsBegun base host
  pub made : IsTrue tells → OnOk result (HasSettled (open_header base host) (file_in new header_file))
  pub from_short : IsTrue tells → (file_in old header_file).greatest ≤ 1
      → EachMoment (Changes header_file (λ _ file. IsHeaderOrNone base host file) old.moments.now) old.moments new.moments
