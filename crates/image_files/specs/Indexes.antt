-- The index of an image, and where an area has none.
use Rattle.std.specs.Prelude.{◌≡◌, ◌≢◌, ℕ, ◌+◌, List, [], ◌∷◌, length, reverse}
use Rattle.nmc_base.specs.declared.chain_ends.Base.{Base}
use Rattle.chain_names.specs.Tables.{coins_in, queued_in, queue_of}
use Rattle.name_tables.specs.Tables.{maps_by, AreFilled}
use Rattle.undo_records.specs.declared.version.Version.{Version}
use Rattle.image_grammar.specs.Image.{Image, maps_listed}
use Rattle.state_image.specs.Answers.{IsSoundText, IsDamaged}
use Rattle.chain_state.specs.Chain.{Indexed, IsAtBase, newest_hash}
use Rattle.image_files.specs.Fronts.{HasFront, image_at}

-- ---- the index

-- The index of this image on this base: its records and its state, as many blocks above the base as there are records.
pub record IsIndexBy (base : Base) (image : Image) (index : Indexed) : Type 0 where
  pub base_is : index.base ≡ base
  pub height : index.tip.height ≡ base.height + length image.undos
  pub hash : index.tip.hash ≡ newest_hash base (reverse image.undos)
  pub maps : maps_by index.tables ≡ maps_listed image
  pub queue : queued_in index.tables.queue ≡ queue_of (coins_in index.tables.coins)
  pub undos : index.undos ≡ reverse image.undos
  pub filled : AreFilled index.tables

-- The text is that of a sound state on this base, and this is its index.
pub record IsIndexOf (base : Base) (text : List ℕ) (index : Indexed) : Type 0 where
  pub version : Version
  pub image : Image
  pub is_text : IsSoundText text version image
  pub on_base : image.base ≡ base
  pub is_index : IsIndexBy base image index

-- the index with which an area begins: no text stands for the base alone
abbrev pub BeginsWith : Base → List ℕ → Indexed → Type 0
BeginsWith base [] index = IsAtBase base index
BeginsWith base (byte ∷ text) index = IsIndexOf base (byte ∷ text) index

-- ---- no index

-- the text is that of no sound state: the place of its first fault, behind the length of the image
pub record IsDamagedAt (text : List ℕ) (at : ℕ) : Type 0 where
  pub place : ℕ
  pub damaged : IsDamaged text place
  pub at_is : at ≡ 8 + place

-- the text is that of a sound state of another base
pub record IsOfAnotherBase (base : Base) (text : List ℕ) (at : ℕ) : Type 0 where
  pub version : Version
  pub image : Image
  pub is_text : IsSoundText text version image
  pub other : image.base ≢ base
  pub at_is : at ≡ 8

-- The place of the damage of an area that begins with no index of this base. At most one of the cases holds.
pub data HasBadImage (base : Base) (file : List ℕ) (at : ℕ) : Type 0 where
  no_front : at ≡ 0 → ¬ (HasFront file) → HasBadImage base file at
  damaged : HasFront file → image_at file ≢ [] → IsDamagedAt (image_at file) at → HasBadImage base file at
  other_base : HasFront file → image_at file ≢ [] → IsOfAnotherBase base (image_at file) at → HasBadImage base file at
