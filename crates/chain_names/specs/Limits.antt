-- The limits of an undo record: how long its parts are, and which coins it holds.
use Rattle.std.specs.Prelude.{◌<◌, ◌≤◌, ◌^◌, length, Option, Some, None}
use Rattle.std.specs.List.{AllByRecursion}
use Rattle.nmc_base.specs.declared.limits.TheConstants.{LONGEST_NAME, LONGEST_VALUE}
use Rattle.chain_names.specs.declared.coin.Coin.{Coin}
use Rattle.chain_names.specs.declared.coin.Coin.TheVariants.{New, Named}
use Rattle.chain_names.specs.declared.coin.HeldCoin.{HeldCoin}
use Rattle.chain_names.specs.declared.coin.Item.{Item}
use Rattle.chain_names.specs.declared.undo.UndoOp.{UndoOp}
use Rattle.chain_names.specs.declared.undo.UndoOp.TheVariants.{New as undo_new, First as undo_first, Update as undo_update}
use Rattle.chain_names.specs.Undo.{UndoRecord}
use Rattle.chain_names.specs.Expired.{IsSortedByPoint}

abbrev pub IsCommitment : Coin → Type 0
IsCommitment (New hash height) = Unit {0}
IsCommitment (Named name height) = ⊥

-- the coin of a name that isn't too long
abbrev pub IsNameCoin : Coin → Type 0
IsNameCoin (New hash height) = ⊥
IsNameCoin (Named name height) = length name ≤ LONGEST_NAME

-- the value of the item before, where there is one, isn't too long
abbrev pub IsShortBefore : Option Item → Type 0
IsShortBefore None = Unit {0}
IsShortBefore (Some item) = length item.value ≤ LONGEST_VALUE

-- an operation that opens a name spends a commitment, and one that updates a name spends a name's coin
abbrev pub IsWithinLimitsOp : UndoOp → Type 0
IsWithinLimitsOp (undo_new made) = Unit {0}
IsWithinLimitsOp (undo_first made spent coin name before) = IsCommitment coin × (length name ≤ LONGEST_NAME) × IsShortBefore before
IsWithinLimitsOp (undo_update made spent coin name before) = IsNameCoin coin × (length name ≤ LONGEST_NAME) × IsShortBefore before

abbrev pub HoldsName : HeldCoin → Type 0
HoldsName held = IsNameCoin held.coin

-- its lists are shorter than 2^32, and what expired are names' coins, in the order of their outpoints
pub record IsWithinLimits (u : UndoRecord) : Type 0 where
  pub few_ops : length u.ops < 2 ^ 32
  pub few_expired : length u.expired < 2 ^ 32
  pub ops : AllByRecursion IsWithinLimitsOp u.ops
  pub expired : AllByRecursion HoldsName u.expired
  pub sorted : IsSortedByPoint u.expired
