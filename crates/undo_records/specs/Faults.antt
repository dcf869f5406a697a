-- The faults of an undo record's text, by the grammar of its version. The rest is what stands from the place of the fault on.
use Rattle.std.specs.Prelude.{◌≡◌, ◌≢◌, ℕ, ◌<◌, ◌≤◌, ◌^◌, List, [], ◌∷◌, ◌++◌, length, drop, Option, Some, None}
use Rattle.std.specs.List.{flat_map, AllByRecursion}
use Rattle.std.specs.Int.{w16, w32, to_le_bytes}
use Rattle.nmc_base.specs.declared.hashes.OutPoint.{OutPoint}
use Rattle.chain_names.specs.declared.coin.Coin.{Coin}
use Rattle.chain_names.specs.declared.coin.HeldCoin.{HeldCoin}
use Rattle.chain_names.specs.declared.undo.UndoOp.{UndoOp}
use Rattle.chain_names.specs.Undo.{UndoRecord}
use Rattle.nmc_base.specs.declared.limits.TheConstants.{LONGEST_VALUE}
use Rattle.undo_records.specs.declared.fault.UndoFault.{UndoFault}
use Rattle.undo_records.specs.declared.fault.UndoFault.TheVariants.{Cut, BadTag, Unsorted, NoMemory}
use Rattle.undo_records.specs.declared.version.Version.{Version}
use Rattle.undo_records.specs.Versions.{IsTold, IsOpIn, HasPartsIn, AreTold}
use Rattle.undo_records.specs.Text.{point_text, name_text, coin_text, registered_text, op_text, held_text, undo_text}
use Rattle.chain_names.specs.Writable.{IsWritablePoint, IsWritableName, IsWritableNew, IsWritableNamed, IsWritableHeld, IsAfter, AreAscending, IsWritable}

-- ---- tags and lengths

-- a byte is there, and it is none of these tags
pub record IsOther (tags bytes : List ℕ) : Type 0 where
  pub first : ℕ
  pub more : List ℕ
  pub text : bytes ≡ first ∷ more
  pub other : AllByRecursion (λ tag. first ≢ tag) tags

-- the length of a value is there, and it is above the limit
pub record IsLongLength (bytes : List ℕ) : Type 0 where
  pub number : ℕ
  pub more : List ℕ
  pub text : bytes ≡ to_le_bytes w16 number ++ more
  pub long : LONGEST_VALUE < number
  pub fits : number < 2 ^ 16

-- ---- within an operation

-- what says whether there was an item before is neither 0 nor 1, or that item has a long value
pub data IsBadBefore (version : Version) (bytes rest : List ℕ) : Type 0 where
  no_flag : IsOther (0 ∷ 1 ∷ []) bytes → rest ≡ bytes → IsBadBefore version bytes rest
  long_value : (height registered : ℕ) (at : OutPoint) → height < 2 ^ 32 → IsTold version registered → IsWritablePoint at
      → bytes ≡ 1 ∷ (to_le_bytes w32 height ++ (registered_text version registered ++ (point_text at ++ rest))) → IsLongLength rest → IsBadBefore version bytes rest

-- the coin spent has another tag than this one, or what stands before is bad
pub data IsBadChange (version : Version) (coin_tag : ℕ) (FitsCoin : Coin → Type 0) (bytes rest : List ℕ) : Type 0 where
  other_coin : (made spent : OutPoint) → IsWritablePoint made → IsWritablePoint spent
      → bytes ≡ point_text made ++ (point_text spent ++ rest) → IsOther (coin_tag ∷ []) rest → IsBadChange version coin_tag FitsCoin bytes rest
  bad_before : (made spent : OutPoint) (coin : Coin) (name inner : List ℕ) → IsWritablePoint made → IsWritablePoint spent → FitsCoin coin → IsWritableName name
      → bytes ≡ point_text made ++ (point_text spent ++ (coin_text coin ++ (name_text name ++ inner))) → IsBadBefore version inner rest
      → IsBadChange version coin_tag FitsCoin bytes rest

pub data IsBadOperation (version : Version) (bytes rest : List ℕ) : Type 0 where
  other_tag : IsOther (0x51 ∷ 0x52 ∷ 0x53 ∷ []) bytes → rest ≡ bytes → IsBadOperation version bytes rest
  in_first : (change : List ℕ) → bytes ≡ 0x52 ∷ change → IsBadChange version 1 IsWritableNew change rest → IsBadOperation version bytes rest
  in_update : (change : List ℕ) → bytes ≡ 0x53 ∷ change → IsBadChange version 2 IsWritableNamed change rest → IsBadOperation version bytes rest

-- ---- within a record

-- fewer operations than the number before them says, and then these bytes
pub record ReachesOperation (version : Version) (bytes inner : List ℕ) : Type 0 where
  pub block : List ℕ
  pub block_length : length block ≡ 32
  pub count : ℕ
  pub count_fits : count < 2 ^ 32
  pub ops : List UndoOp
  pub ops_fit : AllByRecursion (IsOpIn version) ops
  pub fewer : length ops < count
  pub text : bytes ≡ block ++ (to_le_bytes w32 count ++ (flat_map (op_text version) ops ++ inner))

-- the outpoint of the last coin, if there is one
abbrev pub last_point : List HeldCoin → Option OutPoint
last_point [] = None
last_point (held ∷ []) = Some held.at
last_point (held ∷ next ∷ more) = last_point (next ∷ more)

-- fewer expired coins than the number before them says, in order, and then these bytes
pub record ReachesCoin (version : Version) (bytes : List ℕ) (coins : List HeldCoin) (inner : List ℕ) : Type 0 where
  pub block : List ℕ
  pub block_length : length block ≡ 32
  pub ops : List UndoOp
  pub op_count : length ops < 2 ^ 32
  pub ops_fit : AllByRecursion (IsOpIn version) ops
  pub count : ℕ
  pub count_fits : count < 2 ^ 32
  pub coins_fit : AllByRecursion IsWritableHeld coins
  pub in_order : AreAscending None coins
  pub fewer : length coins < count
  pub text : bytes ≡ block ++ (to_le_bytes w32 (length ops) ++ (flat_map (op_text version) ops ++ (to_le_bytes w32 count ++ (flat_map held_text coins ++ inner))))

-- a tag that isn't allowed there, or the length of a long value, stands at the front of the rest
pub data IsBadTag (version : Version) (bytes rest : List ℕ) : Type 0 where
  operation : (inner : List ℕ) → ReachesOperation version bytes inner → IsBadOperation version inner rest → IsBadTag version bytes rest
  expired_coin : (coins : List HeldCoin) (inner : List ℕ) (at : OutPoint) → ReachesCoin version bytes coins inner → IsWritablePoint at → IsAfter (last_point coins) at
      → inner ≡ point_text at ++ rest → IsOther (2 ∷ []) rest → IsBadTag version bytes rest

-- an expired coin's outpoint, which isn't greater than the one before, stands at the front of the rest
pub record IsUnsorted (version : Version) (bytes rest : List ℕ) : Type 0 where
  pub coins : List HeldCoin
  pub reached : ReachesCoin version bytes coins rest
  pub at : OutPoint
  pub more : List ℕ
  pub fits : IsWritablePoint at
  pub text : rest ≡ point_text at ++ more
  pub not_after : ¬ (IsAfter (last_point coins) at)

-- some text of the format begins with the bytes, and is longer
pub record IsProperFront {A : Type 0} (text : A → List ℕ) (Fits : A → Type 0) (bytes : List ℕ) : Type 0 where
  pub value : A
  pub fits : Fits value
  pub next : ℕ
  pub more : List ℕ
  pub text_is : text value ≡ bytes ++ next ∷ more

-- The bytes end too early: they are the front of a record's text but for the order of its expired coins, and no
-- outpoint in them is out of order.
pub record IsCut (version : Version) (bytes : List ℕ) : Type 0 where
  pub front : IsProperFront (undo_text version) (HasPartsIn version) bytes
  pub sorted : (rest : List ℕ) → ¬ (IsUnsorted version bytes rest)

-- the fault that bytes have, and its place
abbrev pub HasFault : Version → List ℕ → UndoFault → Type 0
HasFault version bytes (Cut at) = (at ≡ length bytes) × IsCut version bytes
HasFault version bytes (BadTag at) = (at ≤ length bytes) × IsBadTag version bytes (drop at bytes)
HasFault version bytes (Unsorted at) = (at ≤ length bytes) × IsUnsorted version bytes (drop at bytes)
HasFault version bytes NoMemory = ⊥

-- The bytes begin with the text of the record, of this length. Where the text has no registration heights, those of the
-- record are 0.
pub record BeginsWith (version : Version) (bytes : List ℕ) (undo : UndoRecord) (len : ℕ) : Type 0 where
  pub writable : IsWritable undo
  pub told : AreTold version undo
  pub text : bytes ≡ undo_text version undo ++ drop len bytes
  pub length_is : len ≡ length (undo_text version undo)
