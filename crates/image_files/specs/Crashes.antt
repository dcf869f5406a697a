-- What a crash at a moment of a save leaves.
use Rattle.std.specs.Prelude.{◌⊎◌, ℕ, ◌+◌, List}
use Rattle.disk_model.specs.FileState.{IsFileImage}
use Rattle.disk_model.specs.Moments.{Files, IsImage}
use Rattle.gate_journal.specs.Records.{IsArea}
use Rattle.image_slots.specs.Selections.{HasSelections, selected_by, drafted_by, selections_file}

-- the selections from before the save, and the area that they select as a crash might have left it then
pub record LeavesOld (front : List ℕ) (count : ℕ) (files : Files) (crashed : ℕ → List ℕ) : Type 0 where
  pub selections : HasSelections front count (crashed selections_file)
  pub selected : IsFileImage (files (selected_by count)) (crashed (selected_by count))

-- one selection more, and in the area that it names the image and the records behind it
pub record LeavesNew (front : List ℕ) (count : ℕ) (image : List ℕ) (records : List (List ℕ)) (crashed : ℕ → List ℕ) : Type 0 where
  pub selections : HasSelections front (count + 1) (crashed selections_file)
  pub drafted : IsArea image records (crashed (drafted_by count))

-- each crash with these files leaves one of the two
abbrev pub LeavesOldOrNew : List ℕ → ℕ → List ℕ → List (List ℕ) → Files → Files → Type 0
LeavesOldOrNew front count image records old files =
    (crashed : ℕ → List ℕ) → IsImage files crashed → LeavesOld front count old crashed ⊎ LeavesNew front count image records crashed
