-- What contracts see of slots, and what it is for slots to be on a disk.
use Rattle.std.specs.Prelude.{◌≡◌, ◌⊎◌, ℕ, ◌+◌, ◌^◌, List, length}
use Rattle.disk_model.specs.FileState.{FileState, IsFileImage, IsSettled}
use Rattle.disk_model.specs.Moments.{Files}
use Rattle.disk_model.specs.Changes.{LeavesOthers}
use Rattle.image_slots.specs.declared.limits.SlotLimits.{SlotLimits}
use Rattle.image_slots.specs.Selections.{HasSelections, selections_file}

-- the place of the first gate of the selections, how many there are, and the limits
pub record Slotted : Type 0 where
  pub at : ℕ
  pub count : ℕ
  pub limits : SlotLimits

-- with a selection more
abbrev pub with_one_more : Slotted → Slotted
with_one_more slots = record slots { count = slots.count + 1 }

-- no first gate stands farther off, and no image is longer
abbrev pub farthest : ℕ
farthest = 2 ^ 42

-- The slots are on the disk: the file of the selections is settled, and behind this front has exactly so many of them.
pub record AreOn (front : List ℕ) (slots : Slotted) (file : FileState) : Type 0 where
  pub settled : IsSettled file
  pub at_is : slots.at ≡ length front
  pub has : HasSelections front slots.count file.bytes

-- A crash leaves so many selections, or one more; no other file has changed.
pub record KeepsOrSelects (front : List ℕ) (count : ℕ) (old files : Files) : Type 0 where
  pub image : (image : List ℕ) → IsFileImage (files selections_file) image → HasSelections front count image ⊎ HasSelections front (count + 1) image
  pub others : LeavesOthers selections_file old files
