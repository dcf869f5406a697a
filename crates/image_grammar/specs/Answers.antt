-- What was gathered of an image.
use Rattle.std.specs.Prelude.{◌≡◌, ℕ, List, [], reverse, Ok, Err}
use Rattle.undo_records.specs.declared.version.Version.{Version}
use Rattle.image_grammar.specs.Image.{Image, HasText, maps_listed}
use Rattle.image_grammar.specs.Resuming.{Answer}
use Rattle.image_grammar.specs.Stages.{Gathered}
use Rattle.image_grammar.specs.Text.{image_text}

-- the base, the records and the state are those of the image
pub record Holds (image : Image) (g : Gathered) : Type 0 where
  pub base_is : g.base ≡ image.base
  pub undos_are : g.undos ≡ reverse image.undos
  pub maps_are : g.maps ≡ maps_listed image

-- the image was read, and nothing is left
abbrev pub IsWhole : Image → Answer Gathered → Type 0
IsWhole image (Ok x) = Holds image x.0 × (x.1 ≡ [])
IsWhole image (Err e) = ⊥

-- the text is that of an image, in one of the versions, and this was gathered of it
pub record IsTextOf (text : List ℕ) (g : Gathered) : Type 0 where
  pub version : Version
  pub image : Image
  pub has_text : HasText image
  pub text_is : text ≡ image_text version image
  pub holds : Holds image g
