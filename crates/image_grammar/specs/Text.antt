-- The text of an image, in each of its versions. Numbers stand with their low byte first.
use Rattle.std.specs.Prelude.{◌≡◌, ◌==◌, Bool, ℕ, if◌then◌else◌, List, [], ◌∷◌, ◌++◌, length, reverse}
use Rattle.std.specs.List.{flat_map}
use Rattle.std.specs.Int.{w32, to_le_bytes}
use Rattle.nmc_base.specs.declared.chain_ends.Base.{Base}
use Rattle.nmc_base.specs.declared.chain_ends.Profile.{Profile}
use Rattle.nmc_base.specs.declared.chain_ends.Profile.TheVariants.{Regtest, Main}
use Rattle.chain_names.specs.Coins.{Maps}
use Rattle.chain_names.specs.Undo.{UndoRecord}
use Rattle.undo_records.specs.declared.version.Version.{Version}
use Rattle.undo_records.specs.declared.version.Version.TheVariants.{One, Two}
use Rattle.undo_records.specs.Text.{name_text, held_text, item_text, undo_text}
use Rattle.image_grammar.specs.Image.{Image, History, IsImageOf}

abbrev pub magic : List ℕ
magic = 0x4e ∷ 0x4d ∷ 0x43 ∷ 0x49 ∷ []

-- ---- versions and profiles

abbrev pub version_byte : Version → ℕ
version_byte One = 1
version_byte Two = 2

-- the version of a byte, where the byte is one's
abbrev pub version_of : ℕ → Version
version_of byte = if byte == 2 then Two else One

abbrev pub is_version : ℕ → Bool
is_version byte = byte == version_byte (version_of byte)

-- the byte is the one of the header of file 0
abbrev pub profile_byte : Profile → ℕ
profile_byte Regtest = 1
profile_byte Main = 2

-- the profile of a byte, where the byte is one's
abbrev pub profile_of : ℕ → Profile
profile_of byte = if byte == 2 then Main else Regtest

abbrev pub is_profile : ℕ → Bool
is_profile byte = byte == profile_byte (profile_of byte)

-- ---- the text

-- values behind their number
abbrev pub counted_text : {A : Type 0} → (A → List ℕ) → List A → List ℕ
counted_text text xs = to_le_bytes w32 (length xs) ++ flat_map text xs

-- +----------+------+--------------+-------+
-- | length 1 | name | item count 4 | items |
-- +----------+------+--------------+-------+
abbrev pub history_text : Version → History → List ℕ
history_text version h = name_text h.name ++ counted_text (item_text version) h.items

-- +--------+-----------+-----------+---------------+--------------+
-- | `NMCI` | version 1 | profile 1 | base height 4 | base hash 32 |
-- +--------+-----------+-----------+---------------+--------------+
abbrev pub head_text : Version → Base → List ℕ
head_text version base = magic ++ (version_byte version ∷ profile_byte base.profile ∷ (to_le_bytes w32 base.height ++ base.hash.0))

-- +------+--------------+---------+--------------+-------+--------------+-------+
-- | head | undo count 4 | records | coin count 4 | coins | name count 4 | names |
-- +------+--------------+---------+--------------+-------+--------------+-------+
abbrev pub image_text : Version → Image → List ℕ
image_text version image =
    head_text version image.base
    ++ (counted_text (undo_text version) image.undos ++ (counted_text held_text image.coins ++ counted_text (history_text version) image.names))

-- the text of a base, of the records that undo the blocks on it, the newest first, and of the state at the tip
pub record IsStateText (version : Version) (base : Base) (undos : List UndoRecord) (maps : Maps) (text : List ℕ) : Type 0 where
  pub image : Image
  pub image_is : IsImageOf base (reverse undos) maps image
  pub text_is : text ≡ image_text version image
