-- The steps of a slice.
use Rattle.std.specs.Prelude.{◌≡◌, ℕ, ◌+◌, ◌-◌, ◌<◌, Bool, IsTrue, IsFalse, List, ◌++◌, length, All, Result, OnOk, OnErr}
use Rattle.fault_counts.specs.Faults.{NeverFell}
use Rattle.disk_model.specs.Moments.{EachMoment}
use Rattle.disk_model.specs.Changes.{LeavesOthers}
use Rattle.disk_model.specs.DiskSeen.{DiskSeen, HasFailed, NoneFailed, bytes_in}
use Rattle.gate_journal.specs.Records.{Fits, records_text}
use Rattle.image_slots.specs.Drafted.{Drafted, DraftHolds}
use Rattle.name_store.specs.Drafting.{Drafting, IsNextOf, drafted_text, since_text}

-- So many bytes were written, by calls of which each error is a fault of the disk; by none where they are no bytes.
pub record EndsIfAny {T E : Type 0} (count : ℕ) (old new : DiskSeen) (result : Result T E) : Type 0 where
  pub later : NeverFell old.faults new.faults
  pub worked : 0 < count → OnOk result (IsFalse new.failed)
  pub none : OnOk result (NoneFailed old new)
  pub failed : OnErr result (HasFailed old new)

-- So many bytes went to a draft's end: these, where the disk tells its files.
pub record WritesMore {T E : Type 0} (tells : Bool) (old new : Drafted) (count : ℕ) (piece : List ℕ) (before after : DiskSeen) (result : Result T E) : Type 0 where
  pub ok : OnOk result (new ≡ record old { written = old.written + count })
  pub holds : IsTrue tells → (pieces : List ℕ) → DraftHolds old pieces (bytes_in before old.file) → OnOk result (DraftHolds new (pieces ++ piece) (bytes_in after new.file))
  pub others : IsTrue tells → EachMoment (LeavesOthers old.file before.moments.now) before.moments after.moments
  pub ends : EndsIfAny count before after result

-- a draft holds what is to be written of this image and of this selected area so far
abbrev pub HoldsSoFar : Drafting → (selected : ℕ) → (image : List ℕ) → DiskSeen → Type 0
HoldsSoFar drafting selected image disk = DraftHolds drafting.draft (drafted_text drafting image (bytes_in disk selected)) (bytes_in disk drafting.draft.file)

-- So many bytes more of the image and of the selected area in this file went to the draft, the first of them this piece of the image.
pub record WritesNext {T E : Type 0} (tells : Bool) (selected : ℕ) (old new : Drafting) (count : ℕ) (piece : List ℕ) (before after : DiskSeen) (result : Result T E) : Type 0 where
  pub ok : OnOk result (new ≡ record { draft = record old.draft { written = old.draft.written + count }; from = old.from })
  pub holds : IsTrue tells → (image : List ℕ) → old.draft.image ≡ length image → IsNextOf old image piece → HoldsSoFar old selected image before
      → OnOk result (DraftHolds new.draft (drafted_text new image (bytes_in before selected)) (bytes_in after new.draft.file))
  pub others : IsTrue tells → EachMoment (LeavesOthers old.draft.file before.moments.now) before.moments after.moments
  pub ends : EndsIfAny count before after result

-- The draft is whole with so many bytes more: this image, and then these records, which the selected area has since it was begun.
pub record IsWholeWith (selected : ℕ) (drafting : Drafting) (count : ℕ) (piece : List ℕ) (disk : DiskSeen) (image : List ℕ) (records : List (List ℕ)) : Type 0 where
  pub size : drafting.draft.image ≡ length image
  pub next : IsNextOf drafting image piece
  pub holds : HoldsSoFar drafting selected image disk
  pub fit : All Fits records
  pub since : since_text drafting (drafting.draft.written + count - drafting.draft.image) (bytes_in disk selected) ≡ records_text records
