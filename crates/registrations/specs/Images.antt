-- An image whose registration heights are others.
use Rattle.std.specs.Prelude.{◌≡◌, ℕ, List, map, reverse}
use Rattle.std.specs.List.{AllByRecursion}
use Rattle.chain_names.specs.Undo.{UndoRecord}
use Rattle.chain_names.specs.Writable.{IsWritableItem, IsWritable}
use Rattle.undo_records.specs.declared.version.Version.TheVariants.{One}
use Rattle.image_grammar.specs.Image.{Image, History, HasText, coins_listed, names_listed, maps_listed}
use Rattle.image_grammar.specs.Text.{image_text}
use Rattle.registrations.specs.Told.{Histories, TellSame}

-- each item and each record has a text
pub record AreWritable (names : Histories) (us : List UndoRecord) : Type 0 where
  pub items : (name : List ℕ) → AllByRecursion IsWritableItem (names name)
  pub undos : AllByRecursion IsWritable us

-- version 1 tells the same of both images
pub record AreToldAlike (image other : Image) : Type 0 where
  pub base_told : image.base ≡ other.base
  pub coins_told : coins_listed image.coins ≡ coins_listed other.coins
  pub state_told : TellSame (names_listed image.names) (names_listed other.names) (reverse image.undos) (reverse other.undos)

-- the image with the items of these histories, and with these records, the newest first
abbrev pub refilled : Image → Histories → List UndoRecord → Image
refilled image names us = record {
  base = image.base;
  undos = reverse us;
  coins = image.coins;
  names = map (λ h. record { name = h.name; items = names h.name }) image.names;
}

-- it is written in version 1 as the image is, and lists these histories and records
pub record IsRefilled (image : Image) (names : Histories) (us : List UndoRecord) : Type 0 where
  pub has_text : HasText (refilled image names us)
  pub text_is : image_text One (refilled image names us) ≡ image_text One image
  pub maps_are : maps_listed (refilled image names us) ≡ record { coins = coins_listed image.coins; names = names }
  pub undos_are : reverse (refilled image names us).undos ≡ us
