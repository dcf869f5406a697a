-- A save: what a crash leaves at each moment of it, and what it leaves of the disk.
use Rattle.std.specs.Prelude.{◌≡◌, ◌⊎◌, ℕ, ◌+◌, Bool, IsTrue, List, [], ◌∷◌, ◌++◌, Result, OnOk, OnErr, IfOk}
use Rattle.disk_model.specs.FileState.{FileState, IsFileImage, IsSettled}
use Rattle.disk_model.specs.Moments.{Files, EachMoment}
use Rattle.disk_model.specs.Changes.{LeavesOthers}
use Rattle.disk_model.specs.DiskSeen.{DiskSeen, Ends, file_in}
use Rattle.disk_model.specs.declared.disk.Failed.{Failed}
use Rattle.gate_journal.specs.Records.{IsArea, image_front}
use Rattle.image_slots.specs.Selections.{HasSelections, selected_by, drafted_by, selections_file}
use Rattle.image_slots.specs.Slotted.{Slotted, AreOn, with_one_more}

-- The file has this image and a closed gate behind it, and nothing else; a crash leaves them.
pub record HasImage (image : List ℕ) (file : FileState) : Type 0 where
  pub settled : IsSettled file
  pub bytes : file.bytes ≡ image_front image ++ 0 ∷ []
  pub area : IsArea image [] file.bytes

-- The file has this image and these records behind it; a crash leaves them.
pub record HasArea (image : List ℕ) (records : List (List ℕ)) (file : FileState) : Type 0 where
  pub settled : IsSettled file
  pub area : IsArea image records file.bytes

-- A crash leaves so many selections, or one more. The area that this one names has the image and the records behind it, and the area that
-- was selected before is as it was.
pub record IsBeingSelected (front : List ℕ) (count : ℕ) (image : List ℕ) (records : List (List ℕ)) (old files : Files) : Type 0 where
  pub selections : (crashed : List ℕ) → IsFileImage (files selections_file) crashed → HasSelections front count crashed ⊎ HasSelections front (count + 1) crashed
  pub drafted : HasArea image records (files (drafted_by count))
  pub selected : files (selected_by count) ≡ old (selected_by count)

-- The files at a moment of a save that began with so many selections. A whole save has no records.
pub data SavesAt (front : List ℕ) (count : ℕ) (image : List ℕ) (records : List (List ℕ)) (old files : Files) : Type 0 where
  -- no file has changed but the area that isn't selected
  drafting : LeavesOthers (drafted_by count) old files → SavesAt front count image records old files
  selecting : IsBeingSelected front count image records old files → SavesAt front count image records old files

-- What was drafted was finished and selected, so that the new slots are on the disk: each image with records of which this fact held. The area
-- that was selected before stays as it was at each moment.
pub record SelectsArea (tells : Bool) (old new : Slotted) (Has : List ℕ → List (List ℕ) → Type 0) (before after : DiskSeen) (result : Result ℕ Failed) : Type 0 where
  pub ok : IfOk result (λ number. (number ≡ old.count + 1) × (new ≡ with_one_more old))
  pub err : OnErr result (new ≡ old)
  pub on_disk : IsTrue tells → (front : List ℕ) → AreOn front old (file_in before selections_file) → OnOk result (AreOn front new (file_in after selections_file))
  pub area : IsTrue tells → (image : List ℕ) (records : List (List ℕ)) → Has image records → OnOk result (HasArea image records (file_in after (drafted_by old.count)))
  pub any_moment : IsTrue tells → (front : List ℕ) (image : List ℕ) (records : List (List ℕ)) → AreOn front old (file_in before selections_file) → Has image records
      → EachMoment (SavesAt front old.count image records before.moments.now) before.moments after.moments
  pub selected : IsTrue tells → EachMoment (λ files. files (selected_by old.count) ≡ before.moments.now (selected_by old.count)) before.moments after.moments
  pub ends : Ends before after result

-- An image was drafted and selected, so that the new slots are on the disk. The area that was selected before stays as it was at each moment.
pub record WritesImage (tells : Bool) (old new : Slotted) (image : List ℕ) (before after : DiskSeen) (result : Result ℕ Failed) : Type 0 where
  pub ok : IfOk result (λ number. (number ≡ old.count + 1) × (new ≡ with_one_more old))
  pub err : OnErr result (new ≡ old)
  pub on_disk : IsTrue tells → (front : List ℕ) → AreOn front old (file_in before selections_file) → OnOk result (AreOn front new (file_in after selections_file))
  pub area : IsTrue tells → OnOk result (HasImage image (file_in after (drafted_by old.count)))
  pub any_moment : IsTrue tells → (front : List ℕ) → AreOn front old (file_in before selections_file)
      → EachMoment (SavesAt front old.count image [] before.moments.now) before.moments after.moments
  pub selected : IsTrue tells → EachMoment (λ files. files (selected_by old.count) ≡ before.moments.now (selected_by old.count)) before.moments after.moments
  pub ends : Ends before after result
