-- The first fault of an image's text, by the grammar. The rest is what stands from the place of the fault on. Lists of values that were
-- read have the newest first.
use Rattle.std.specs.Prelude.{◌≡◌, ◌≢◌, ◌⊎◌, ℕ, ◌-◌, ◌<◌, ◌≤◌, ◌^◌, List, [], ◌∷◌, ◌++◌, length, Option, Some, None}
use Rattle.std.specs.Int.{w32, to_le_bytes}
use Rattle.std.specs.Cmp.Lexicographic.{slice_cmp}
use Rattle.std.specs.Ordering.{nat_cmp}
use Rattle.std.specs.declared.cmp.Ordering.TheVariants.{Less}
use Rattle.std.specs.List.{flat_map, AllByRecursion}
use Rattle.nmc_base.specs.declared.chain_ends.Base.{Base}
use Rattle.nmc_base.specs.declared.hashes.OutPoint.{OutPoint}
use Rattle.chain_names.specs.declared.coin.HeldCoin.{HeldCoin}
use Rattle.chain_names.specs.declared.coin.Item.{Item}
use Rattle.chain_names.specs.Undo.{UndoRecord}
use Rattle.chain_names.specs.Writable.{IsWritablePoint, IsWritableName, IsAfter}
use Rattle.undo_records.specs.declared.version.Version.{Version}
use Rattle.undo_records.specs.Faults.{IsOther, IsLongLength, IsBadTag, IsUnsorted}
use Rattle.undo_records.specs.Text.{point_text, name_text, registered_text, held_text, item_text, undo_text}
use Rattle.undo_records.specs.Versions.{IsTold, IsItemIn, IsUndoIn}
use Rattle.image_grammar.specs.Image.{Image, History, HasText, IsWritableEntry}
use Rattle.image_grammar.specs.Text.{magic, version_byte, head_text, history_text, image_text}

-- ---- whole values

-- the texts of values one behind the other
abbrev pub texts_of : {A : Type 0} → (A → List ℕ) → List A → List ℕ
texts_of text [] = []
texts_of text (x ∷ below) = texts_of text below ++ text x

abbrev pub last_coin : List HeldCoin → Option OutPoint
last_coin [] = None
last_coin (held ∷ below) = Some held.at

abbrev pub last_name : List History → Option (List ℕ)
last_name [] = None
last_name (h ∷ below) = Some h.name

abbrev pub IsNameAfter : Option (List ℕ) → List ℕ → Type 0
IsNameAfter None name = Unit {0}
IsNameAfter (Some last) name = slice_cmp nat_cmp last name ≡ Less

-- each coin fits, behind a greater outpoint than the one before
abbrev pub AreEntries : List HeldCoin → Type 0
AreEntries [] = Unit {0}
AreEntries (held ∷ below) = IsWritableEntry held × IsAfter (last_coin below) held.at × AreEntries below

-- a name with its items, each of which the version tells whole
pub record IsHistoryIn (version : Version) (h : History) : Type 0 where
  pub name : IsWritableName h.name
  pub some : h.items ≢ []
  pub count : length h.items < 2 ^ 32
  pub items : AllByRecursion (IsItemIn version) h.items

-- each history fits, with a greater name than the one before
abbrev pub AreHistories : Version → List History → Type 0
AreHistories version [] = Unit {0}
AreHistories version (h ∷ below) = IsHistoryIn version h × IsNameAfter (last_name below) h.name × AreHistories version below

-- the head, and a number of records of which these are there; then these bytes
pub record ReachesRecord (version : Version) (text : List ℕ) (count : ℕ) (undos : List UndoRecord) (bytes : List ℕ) : Type 0 where
  pub base : Base
  pub height : base.height < 2 ^ 32
  pub hash : length base.hash.0 ≡ 32
  pub count_fits : count < 2 ^ 32
  pub fit : AllByRecursion (IsUndoIn version) undos
  pub text_is : text ≡ head_text version base ++ (to_le_bytes w32 count ++ (texts_of (undo_text version) undos ++ bytes))

-- all records, and a number of coins of which these are there
pub record ReachesEntry (version : Version) (text : List ℕ) (count : ℕ) (coins : List HeldCoin) (bytes : List ℕ) : Type 0 where
  pub undos : List UndoRecord
  pub count_fits : count < 2 ^ 32
  pub fit : AreEntries coins
  pub reached : ReachesRecord version text (length undos) undos (to_le_bytes w32 count ++ (texts_of held_text coins ++ bytes))

-- all coins, and a number of names of which these are there
pub record ReachesName (version : Version) (text : List ℕ) (count : ℕ) (names : List History) (bytes : List ℕ) : Type 0 where
  pub coins : List HeldCoin
  pub count_fits : count < 2 ^ 32
  pub fit : AreHistories version names
  pub reached : ReachesEntry version text (length coins) coins (to_le_bytes w32 count ++ (texts_of (history_text version) names ++ bytes))

-- ---- what can't stand there

-- a byte of the magic, which is read whole, of the version or of the profile is another one
pub data IsBadHead (text rest : List ℕ) : Type 0 where
  other_magic : (front : List ℕ) (wanted : ℕ) (others : List ℕ) → magic ≡ front ++ wanted ∷ others → length magic ≤ length text
      → text ≡ front ++ rest → IsOther (wanted ∷ []) rest → IsBadHead text rest
  other_version : text ≡ magic ++ rest → IsOther (1 ∷ 2 ∷ []) rest → IsBadHead text rest
  other_profile : (version : Version) → text ≡ magic ++ (version_byte version ∷ rest) → IsOther (1 ∷ 2 ∷ []) rest → IsBadHead text rest

-- a tag, a long length or an outpoint of the record's own grammar
abbrev pub IsBadRecord : Version → (bytes rest : List ℕ) → Type 0
IsBadRecord version bytes rest = IsBadTag version bytes rest ⊎ IsUnsorted version bytes rest

-- the outpoint isn't greater than the one before; or the tag behind it is none
pub data IsBadEntry (last : Option OutPoint) (bytes rest : List ℕ) : Type 0 where
  point_not_after : (at : OutPoint) (more : List ℕ) → IsWritablePoint at → bytes ≡ point_text at ++ more → ¬ (IsAfter last at) → rest ≡ bytes → IsBadEntry last bytes rest
  other_tag : (at : OutPoint) → IsWritablePoint at → IsAfter last at → bytes ≡ point_text at ++ rest → IsOther (1 ∷ 2 ∷ []) rest → IsBadEntry last bytes rest

-- the name isn't greater than the one before; or its number of items is 0; or the value of an item is long
pub data IsBadHistory (version : Version) (last : Option (List ℕ)) (bytes rest : List ℕ) : Type 0 where
  name_not_after : (name more : List ℕ) → IsWritableName name → bytes ≡ name_text name ++ more → ¬ (IsNameAfter last name) → rest ≡ bytes → IsBadHistory version last bytes rest
  no_item : (name more : List ℕ) → IsWritableName name → IsNameAfter last name → bytes ≡ name_text name ++ rest → rest ≡ to_le_bytes w32 0 ++ more
      → IsBadHistory version last bytes rest
  long_value : (name : List ℕ) (count : ℕ) (items : List Item) (height registered : ℕ) (at : OutPoint) → IsWritableName name → IsNameAfter last name → count < 2 ^ 32
      → length items < count → AllByRecursion (IsItemIn version) items → height < 2 ^ 32 → IsTold version registered → IsWritablePoint at
      → bytes ≡ name_text name ++ (to_le_bytes w32 count ++ (flat_map (item_text version) items ++ (to_le_bytes w32 height ++ (registered_text version registered ++ (point_text at ++ rest)))))
      → IsLongLength rest → IsBadHistory version last bytes rest

pub data IsBadImage (text rest : List ℕ) : Type 0 where
  in_head : IsBadHead text rest → IsBadImage text rest
  in_record : (version : Version) (count : ℕ) (undos : List UndoRecord) (bytes : List ℕ) → ReachesRecord version text count undos bytes → length undos < count
      → IsBadRecord version bytes rest → IsBadImage text rest
  in_coin : (version : Version) (count : ℕ) (coins : List HeldCoin) (bytes : List ℕ) → ReachesEntry version text count coins bytes → length coins < count
      → IsBadEntry (last_coin coins) bytes rest → IsBadImage text rest
  in_name : (version : Version) (count : ℕ) (names : List History) (bytes : List ℕ) → ReachesName version text count names bytes → length names < count
      → IsBadHistory version (last_name names) bytes rest → IsBadImage text rest
  -- a byte follows the last name
  behind : (version : Version) (names : List History) → ReachesName version text (length names) names rest → rest ≢ [] → IsBadImage text rest

-- ---- the place

-- the text is that of an image, in one of the versions
pub record IsImageText (text : List ℕ) : Type 0 where
  pub version : Version
  pub image : Image
  pub has_text : HasText image
  pub text_is : text ≡ image_text version image

-- Something can't stand where it stands; or nothing is wrong but the end, which comes too early.
pub data HasImageFault (text : List ℕ) (at : ℕ) : Type 0 where
  bad : (rest : List ℕ) → IsBadImage text rest → at ≡ length text - length rest → HasImageFault text at
  cut : ¬ (IsImageText text) → ((rest : List ℕ) → ¬ (IsBadImage text rest)) → at ≡ length text → HasImageFault text at
