-- What contracts see of a draft.
use Rattle.std.specs.Prelude.{◌≡◌, ℕ, ◌^◌, List, ◌++◌, length, All}
use Rattle.std.specs.Int.{w64, to_le_bytes}
use Rattle.gate_journal.specs.Records.{Fits, records_text}

-- the number of the area's file, the length that its image is to have, and how many bytes were written behind this length: those of the
-- image, and then those of the records behind it
pub record Drafted : Type 0 where
  pub file : ℕ
  pub image : ℕ
  pub written : ℕ

-- no draft is longer
abbrev pub longest_draft : ℕ
longest_draft = 2 ^ 43

-- The draft's file has the length that the image is to have, the pieces so far, and nothing else.
pub record DraftHolds (draft : Drafted) (pieces : List ℕ) (file : List ℕ) : Type 0 where
  pub bytes : file ≡ to_le_bytes w64 draft.image ++ pieces
  pub written : draft.written ≡ length pieces

-- The draft's file has this image, of the length that it is to have, and these records behind it.
pub record DraftHoldsArea (draft : Drafted) (image : List ℕ) (records : List (List ℕ)) (file : List ℕ) : Type 0 where
  pub holds : DraftHolds draft (image ++ records_text records) file
  pub size : draft.image ≡ length image
  pub fit : All Fits records
