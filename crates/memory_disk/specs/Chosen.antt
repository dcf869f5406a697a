-- Which of the images of a file a choice takes.
use Rattle.std.specs.Prelude.{◌≡◌, ℕ, ◌<◌, if◌then◌else◌, List, length, slice_index}
use Rattle.disk_model.specs.FileState.{FileState}
use Rattle.memory_disk.specs.declared.choice.Choice.{Choice}
use Rattle.memory_disk.specs.declared.choice.Choice.TheVariants.{Old, New, Fill}

-- the greatest length, with this byte wherever nothing is settled
pub record IsFilled (byte : ℕ) (file : FileState) (image : List ℕ) : Type 0 where
  pub size : length image ≡ file.greatest
  pub bytes : (p : ℕ) → p < file.greatest → slice_index image p ≡ (if file.settled p then slice_index file.bytes p else byte)

-- what the last sync left, what reads give now, or every unsettled byte filled
abbrev pub IsChosen : Choice → FileState → List ℕ → List ℕ → Type 0
IsChosen Old file last image = image ≡ last
IsChosen New file last image = image ≡ file.bytes
IsChosen (Fill byte) file last image = IsFilled byte file image
