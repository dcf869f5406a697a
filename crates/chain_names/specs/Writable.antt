-- Which records have a text.
use Rattle.std.specs.Prelude.{◌≡◌, ℕ, ◌<◌, ◌≤◌, ◌^◌, List, [], ◌∷◌, length, Option, Some, None}
use Rattle.std.specs.List.{AllByRecursion}
use Rattle.std.specs.declared.cmp.Ordering.TheVariants.{Less}
use Rattle.nmc_base.specs.declared.hashes.OutPoint.{OutPoint}
use Rattle.nmc_base.specs.declared.limits.TheConstants.{DIGEST_LENGTH, LONGEST_NAME, LONGEST_VALUE}
use Rattle.nmc_base.specs.Hash.{outpoint_cmp}
use Rattle.chain_names.specs.declared.coin.Coin.{Coin}
use Rattle.chain_names.specs.declared.coin.Coin.TheVariants.{New, Named}
use Rattle.chain_names.specs.declared.coin.HeldCoin.{HeldCoin}
use Rattle.chain_names.specs.declared.coin.Item.{Item}
use Rattle.chain_names.specs.declared.undo.UndoOp.{UndoOp}
use Rattle.chain_names.specs.declared.undo.UndoOp.TheVariants.{New as op_new, First, Update}
use Rattle.chain_names.specs.Undo.{UndoRecord}

pub record IsWritablePoint (point : OutPoint) : Type 0 where
  pub txid : length point.txid.0 ≡ 32
  pub index : point.index < 2 ^ 32

abbrev pub IsWritableName : List ℕ → Type 0
IsWritableName name = length name ≤ LONGEST_NAME

-- a coin that has no name longer than that
abbrev pub HasShortName : Coin → Type 0
HasShortName (New hash height) = Unit {0}
HasShortName (Named name height) = IsWritableName name

-- a coin of a commitment
abbrev pub IsWritableNew : Coin → Type 0
IsWritableNew (New hash height) = (height < 2 ^ 32) × (length hash.0 ≡ DIGEST_LENGTH)
IsWritableNew (Named name height) = ⊥

-- a coin of a name
abbrev pub IsWritableNamed : Coin → Type 0
IsWritableNamed (New hash height) = ⊥
IsWritableNamed (Named name height) = (height < 2 ^ 32) × IsWritableName name

pub record IsWritableItem (item : Item) : Type 0 where
  pub height : item.height < 2 ^ 32
  pub registered : item.registered < 2 ^ 32
  pub at : IsWritablePoint item.at
  pub value : length item.value ≤ LONGEST_VALUE

abbrev pub IsWritableBefore : Option Item → Type 0
IsWritableBefore None = Unit {0}
IsWritableBefore (Some item) = IsWritableItem item

-- what the operations on a name have behind their tag: the outpoints made and spent, the coin spent, the name, and
-- the item before
pub record Change : Type 0 where
  pub made : OutPoint
  pub spent : OutPoint
  pub coin : Coin
  pub name : List ℕ
  pub before : Option Item

-- the change in an operation
abbrev pub change_of : OutPoint → OutPoint → Coin → List ℕ → Option Item → Change
change_of made spent coin name before = record { made = made; spent = spent; coin = coin; name = name; before = before }

-- a change that spends a coin of this kind
pub record IsWritableChange (FitsCoin : Coin → Type 0) (c : Change) : Type 0 where
  pub made : IsWritablePoint c.made
  pub spent : IsWritablePoint c.spent
  pub coin : FitsCoin c.coin
  pub name : IsWritableName c.name
  pub before : IsWritableBefore c.before

-- a first change spends a commitment, and an update spends a name
abbrev pub IsWritableOp : UndoOp → Type 0
IsWritableOp (op_new made) = IsWritablePoint made
IsWritableOp (First made spent coin name before) = IsWritableChange IsWritableNew (change_of made spent coin name before)
IsWritableOp (Update made spent coin name before) = IsWritableChange IsWritableNamed (change_of made spent coin name before)

pub record IsWritableHeld (held : HeldCoin) : Type 0 where
  pub at : IsWritablePoint held.at
  pub coin : IsWritableNamed held.coin

-- the outpoint is greater than the one before, if there is one: by the bytes of the txids, and then by the index
abbrev pub IsAfter : Option OutPoint → OutPoint → Type 0
IsAfter None point = Unit {0}
IsAfter (Some last) point = outpoint_cmp last point ≡ Less

-- the outpoint of each coin is greater than the one before
abbrev pub AreAscending : Option OutPoint → List HeldCoin → Type 0
AreAscending last [] = Unit {0}
AreAscending last (held ∷ more) = IsAfter last held.at × AreAscending (Some held.at) more

-- a record with a text, but for the order of the expired coins
pub record HasWritableParts (undo : UndoRecord) : Type 0 where
  pub block : length undo.block.0 ≡ 32
  pub op_count : length undo.ops < 2 ^ 32
  pub ops : AllByRecursion IsWritableOp undo.ops
  pub expired_count : length undo.expired < 2 ^ 32
  pub expired : AllByRecursion IsWritableHeld undo.expired

-- a record with a text
pub record IsWritable (undo : UndoRecord) : Type 0 where
  pub fits : HasWritableParts undo
  pub in_order : AreAscending None undo.expired
