-- A draft into which a text is written piece by piece.
use Rattle.std.specs.Prelude.{◌≡◌, ℕ, ◌+◌, ◌<◌, Bool, true, false, List, [], ◌++◌, length}
use Rattle.image_slots.specs.Drafted.{Drafted, DraftHolds}

-- The draft's file holds the image but for this text, which is left.
pub record IsDrafted (image : List ℕ) (draft : Drafted) (text file : List ℕ) : Type 0 where
  pub pieces : List ℕ
  pub whole : pieces ++ text ≡ image
  pub holds : DraftHolds draft pieces file

-- the text is shorter, or nothing of it is left
abbrev pub IsShorter : List ℕ → List ℕ → Bool → Type 0
IsShorter old new true = length new < length old
IsShorter old new false = new ≡ []

-- A piece of the text went into the draft.
pub record MovesOn (old : Drafted) (text : List ℕ) (new : Drafted) (rest : List ℕ) (more : Bool) : Type 0 where
  pub file : new.file ≡ old.file
  pub image : new.image ≡ old.image
  pub written : new.written + length rest ≡ old.written + length text
  pub shorter : IsShorter text rest more
