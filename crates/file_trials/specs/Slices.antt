-- A save in slices on a disk.
use Rattle.std.specs.Prelude.{◌≡◌, ℕ, Bool, IsTrue, List, length}
use Rattle.disk_model.specs.Moments.{Files}
use Rattle.name_store.specs.Stored.{Stored, IsOn}
use Rattle.name_store.specs.Drafting.{Drafting, IsDraftOf, IsDraftOn}
use Rattle.name_store.specs.declared.slicing.SliceOutcome.{SliceOutcome}
use Rattle.name_store.specs.declared.slicing.SliceOutcome.TheVariants.{Written, Selected, AreaLimit, Faulted}

-- so many bytes of this image are written to the draft of this store
pub record IsGoing (tells : Bool) (image : List ℕ) (written : ℕ) (store : Stored) (draft : Drafting) (files : Files) : Type 0 where
  pub is_draft : IsDraftOf store draft
  pub size : draft.draft.image ≡ length image
  pub written_is : draft.draft.written ≡ written
  pub on_disk : IsTrue tells → IsOn store files
  pub drafted : IsTrue tells → IsDraftOn store draft image files

-- where a slice was written
abbrev pub GoesOn : Bool → List ℕ → ℕ → Files → SliceOutcome → Type 0
GoesOn tells image written files (Written store draft) = IsGoing tells image written store draft files
GoesOn tells image written files (Selected store number) = Unit {0}
GoesOn tells image written files (AreaLimit store) = Unit {0}
GoesOn tells image written files Faulted = Unit {0}
