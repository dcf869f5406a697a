-- Whether the record that undoes a block fits a state that has the block as its tip.
use Rattle.std.specs.Prelude.{◌≡◌, ℕ, suc, false, List, [], ◌∷◌, Option, Some, None}
use Rattle.std.specs.List.{AllByRecursion}
use Rattle.nmc_base.specs.declared.hashes.Hash20.{Hash20}
use Rattle.nmc_base.specs.declared.hashes.OutPoint.{OutPoint}
use Rattle.nmc_base.specs.declared.chain_ends.Profile.{Profile}
use Rattle.chain_names.specs.declared.coin.Coin.{Coin}
use Rattle.chain_names.specs.declared.coin.Coin.TheVariants.{New, Named}
use Rattle.chain_names.specs.declared.coin.HeldCoin.{HeldCoin}
use Rattle.chain_names.specs.declared.coin.Item.{Item}
use Rattle.chain_names.specs.declared.undo.UndoOp.{UndoOp}
use Rattle.chain_names.specs.declared.undo.UndoOp.TheVariants.{New as undo_new, First as undo_first, Update as undo_update}
use Rattle.chain_names.specs.Coins.{Maps, entry_of, unless_expired}
use Rattle.chain_names.specs.Changes.{without_entry, back_ops, restored}
use Rattle.chain_names.specs.Tables.{is_named_at}
use Rattle.chain_names.specs.Undo.{UndoRecord}

-- ---- expired coins

-- the coin isn't there, and it is expired in the block after the tip's and not in the tip's
pub record IsJustExpired (profile : Profile) (tip : ℕ) (maps : Maps) (held : HeldCoin) : Type 0 where
  pub free : maps.coins held.at ≡ None
  pub live : unless_expired profile tip (Some held.coin) ≡ Some held.coin
  pub expired : unless_expired profile (suc tip) (Some held.coin) ≡ None

-- the maps with these coins put back
abbrev pub with_restored : List HeldCoin → Maps → Maps
with_restored expired maps = record { coins = restored expired maps.coins; names = maps.names }

-- ---- operations

-- the outpoint made is a commitment of the tip's height
pub record IsMadeCommitment (tip : ℕ) (made : OutPoint) (maps : Maps) : Type 0 where
  pub hash : Hash20
  pub held : maps.coins made ≡ Some (New hash tip)

-- The outpoint made is a name's coin of the tip's height, whichever name it bears. The name's last item is of this height
-- and outpoint and of a registration that began at this height, and the item before it is the one written. The outpoint
-- spent is no coin.
pub record IsMadeName (tip registered : ℕ) (made spent : OutPoint) (name : List ℕ) (before : Option Item) (maps : Maps) : Type 0 where
  pub borne : List ℕ
  pub value : List ℕ
  pub held : maps.coins made ≡ Some (Named borne tip)
  pub last : entry_of (maps.names name) ≡ Some (record { height = tip; registered = registered; at = made; value = value })
  pub before_is : entry_of (without_entry (maps.names name)) ≡ before
  pub free : maps.coins spent ≡ None

-- an update has an item before, and goes on with its registration
abbrev pub IsMadeUpdate : ℕ → OutPoint → OutPoint → List ℕ → Option Item → Maps → Type 0
IsMadeUpdate tip made spent name None maps = ⊥
IsMadeUpdate tip made spent name (Some before) maps = IsMadeName tip before.registered made spent name (Some before) maps

abbrev pub FitsOp : ℕ → UndoOp → Maps → Type 0
FitsOp tip (undo_new made) maps = IsMadeCommitment tip made maps
FitsOp tip (undo_first made spent coin name before) maps = IsMadeName tip tip made spent name before maps
FitsOp tip (undo_update made spent coin name before) maps = IsMadeUpdate tip made spent name before maps

-- from the last to the first: each is tested, and then undone
abbrev pub FitsOps : ℕ → List UndoOp → Maps → Type 0
FitsOps tip [] maps = Unit {0}
FitsOps tip (op ∷ ops) maps = FitsOps tip ops maps × FitsOp tip op (back_ops ops maps)

-- the operations fit the maps with the expired coins put back
pub record FitsState (profile : Profile) (tip : ℕ) (u : UndoRecord) (maps : Maps) : Type 0 where
  pub expired : AllByRecursion (IsJustExpired profile tip maps) u.expired
  pub ops : FitsOps tip u.ops (with_restored u.expired maps)

-- ---- what undoing needs of an operation

-- The coin made isn't a name's.
pub record IsMadeUnnamed (made : OutPoint) (maps : Maps) : Type 0 where
  pub coin : Coin
  pub held : maps.coins made ≡ Some coin
  pub unnamed : (height : ℕ) → is_named_at height (Some coin) ≡ false

-- The coin made is a name's of the tip's height, and the outpoint spent is no coin.
pub record IsMadeNamed (tip : ℕ) (made spent : OutPoint) (maps : Maps) : Type 0 where
  pub name : List ℕ
  pub held : maps.coins made ≡ Some (Named name tip)
  pub free : maps.coins spent ≡ None

abbrev pub IsUndoable : ℕ → UndoOp → Maps → Type 0
IsUndoable tip (undo_new made) maps = IsMadeUnnamed made maps
IsUndoable tip (undo_first made spent coin name before) maps = IsMadeNamed tip made spent maps
IsUndoable tip (undo_update made spent coin name before) maps = IsMadeNamed tip made spent maps

-- from the last to the first
abbrev pub AreUndoable : ℕ → List UndoOp → Maps → Type 0
AreUndoable tip [] maps = Unit {0}
AreUndoable tip (op ∷ ops) maps = AreUndoable tip ops maps × IsUndoable tip op (back_ops ops maps)
