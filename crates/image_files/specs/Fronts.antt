-- The front of an area: the length of its image, and the image. A gate stands behind them.
use Rattle.std.specs.Prelude.{◌≡◌, ℕ, ◌+◌, ◌≤◌, ◌^◌, List, length, take, drop}
use Rattle.std.specs.Int.{w64, from_le_bytes, to_le_bytes}

-- an image of so many bytes, and a gate behind it, lie inside a file of this size; and no image is longer than the longest
pub record LiesInside (longest image size : ℕ) : Type 0 where
  pub long : 9 ≤ size
  pub short : image ≤ longest
  pub inside : 9 + image ≤ size

-- the length of the image, which stands with its low byte first
abbrev pub image_length_at : List ℕ → ℕ
image_length_at file = from_le_bytes w64 (take 8 file)

-- the image and a gate behind it lie inside the file, where no image is longer than the longest
abbrev pub HasFrontWithin : (longest : ℕ) → List ℕ → Type 0
HasFrontWithin longest file = LiesInside longest (image_length_at file) (length file)

-- the longest has 2^37 bytes
abbrev pub HasFront : List ℕ → Type 0
HasFront file = HasFrontWithin (2 ^ 37) file

-- so many bytes behind the length
abbrev pub behind_length : ℕ → List ℕ → List ℕ
behind_length count file = take count (drop 8 file)

abbrev pub image_at : List ℕ → List ℕ
image_at file = behind_length (image_length_at file) file

-- the file has a front, with an image of this length
pub record HasLengthWithin (longest : ℕ) (file : List ℕ) (image : ℕ) : Type 0 where
  pub front : HasFrontWithin longest file
  pub length_is : image ≡ image_length_at file
  pub bytes : to_le_bytes w64 image ≡ take 8 file

abbrev pub HasLength : List ℕ → ℕ → Type 0
HasLength file image = HasLengthWithin (2 ^ 37) file image
