-- What a text is: that of a sound state, or damaged.
use Rattle.std.specs.Prelude.{◌≡◌, ℕ, ◌+◌, ◌-◌, List, length, reverse, Result, Ok, Err}
use Rattle.nmc_base.specs.declared.chain_ends.Base.{Base}
use Rattle.chain_names.specs.Sound.{IsSound}
use Rattle.chain_names.specs.Tables.{coins_in, queued_in, queue_of}
use Rattle.name_tables.specs.Parts.{newest_first, tables_of}
use Rattle.name_tables.specs.Tables.{maps_by, AreFilled}
use Rattle.name_tables.specs.declared.parts.Parts.{Parts}
use Rattle.undo_records.specs.declared.fault.FaultKind.TheVariants.{Cut, BadTag, Unsorted}
use Rattle.undo_records.specs.declared.version.Version.{Version}
use Rattle.image_grammar.specs.Image.{Image, HasText, maps_listed}
use Rattle.image_grammar.specs.Resuming.{Answer}
use Rattle.image_grammar.specs.Stages.{Gathered, image_from}
use Rattle.image_grammar.specs.Text.{image_text}
use Rattle.state_image.specs.declared.fault.ImageFault.{ImageFault}
use Rattle.state_image.specs.declared.fault.ImageFault.TheVariants.{Damaged, NoMemory}

-- ---- sound states

-- as many blocks stand on the base as there are records
abbrev pub IsSoundImage : Image → Type 0
IsSoundImage image = IsSound image.base.profile image.base.height (image.base.height + length image.undos) (maps_listed image) (reverse image.undos)

-- The text is that of a sound state, in this version. The registration heights, which one of version 1 leaves out, follow from the
-- records: the image has them.
pub record IsSoundText (text : List ℕ) (version : Version) (image : Image) : Type 0 where
  pub has_text : HasText image
  pub text_is : text ≡ image_text version image
  pub sound : IsSoundImage image

-- the base and the parts are those of the image
pub record IsImageOfParts (image : Image) (base : Base) (parts : Parts) : Type 0 where
  pub base_is : base ≡ image.base
  pub undos_are : newest_first parts.undos.items ≡ reverse image.undos
  pub maps_are : maps_by (tables_of parts) ≡ maps_listed image

-- the tables are sound with the records, on the base
abbrev pub IsSoundOn : Base → Parts → Type 0
IsSoundOn base parts = IsSound base.profile base.height (base.height + length parts.undos.items) (maps_by (tables_of parts)) (newest_first parts.undos.items)

-- and the queue is that of the coins, and each place in the tables is filled
pub record AreSoundParts (base : Base) (parts : Parts) : Type 0 where
  pub sound : IsSoundOn base parts
  pub queue : queued_in parts.queue ≡ queue_of (coins_in parts.coins)
  pub filled : AreFilled (tables_of parts)

pub record IsLoaded (text : List ℕ) (base : Base) (parts : Parts) : Type 0 where
  pub version : Version
  pub image : Image
  pub is_text : IsSoundText text version image
  pub is_image : IsImageOfParts image base parts
  pub parts_are : AreSoundParts base parts

-- ---- damage

-- the place of the first fault of form: the end, where the text is cut, and else the first byte that can't stand there; 0 without a fault
abbrev pub place_by : List ℕ → Answer Gathered → ℕ
place_by text (Ok x) = 0
place_by text (Err (Cut, rest)) = length text
place_by text (Err (BadTag, rest)) = length text - length rest
place_by text (Err (Unsorted, rest)) = length text - length rest

-- no sound state has the text, and this is the place
pub record IsDamaged (text : List ℕ) (at : ℕ) : Type 0 where
  pub none : (version : Version) (image : Image) → IsSoundText text version image → ⊥
  pub at_is : at ≡ place_by text (image_from text)

-- what the whole text is
abbrev pub IsImageAnswer : List ℕ → Result (Base × Parts) ImageFault → Type 0
IsImageAnswer text (Ok (base, parts)) = IsLoaded text base parts
IsImageAnswer text (Err (Damaged at)) = IsDamaged text at
IsImageAnswer text (Err NoMemory) = Unit {0}
