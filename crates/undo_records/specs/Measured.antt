-- An undo record is as wide as its fields: outpoints, hashes and heights.
use Rattle.std.specs.Prelude.{◌≡◌, length, Option, Some, None}
use Rattle.std.specs.List.{AllByRecursion}
use Rattle.nmc_base.specs.declared.hashes.OutPoint.{OutPoint}
use Rattle.chain_names.specs.declared.coin.Coin.{Coin}
use Rattle.chain_names.specs.declared.coin.HeldCoin.{HeldCoin}
use Rattle.chain_names.specs.declared.coin.Item.{Item}
use Rattle.chain_names.specs.declared.undo.UndoOp.{UndoOp}
use Rattle.chain_names.specs.declared.undo.UndoOp.TheVariants.{New, First, Update}
use Rattle.chain_names.specs.Measured.{IsMeasuredCoin, IsMeasuredItem}
use Rattle.chain_names.specs.Undo.{UndoRecord}
use Rattle.chain_names.specs.Writable.{IsWritablePoint}

abbrev pub IsMeasuredBefore : Option Item → Type 0
IsMeasuredBefore None = Unit {0}
IsMeasuredBefore (Some item) = IsMeasuredItem item

-- a change: the outpoints made and spent, the coin spent, and the item before
abbrev pub IsMeasuredChange : OutPoint → OutPoint → Coin → Option Item → Type 0
IsMeasuredChange made spent coin before = IsWritablePoint made × IsMeasuredCoin spent coin × IsMeasuredBefore before

abbrev pub IsMeasuredOp : UndoOp → Type 0
IsMeasuredOp (New made) = IsWritablePoint made
IsMeasuredOp (First made spent coin name before) = IsMeasuredChange made spent coin before
IsMeasuredOp (Update made spent coin name before) = IsMeasuredChange made spent coin before

abbrev pub IsMeasuredHeld : HeldCoin → Type 0
IsMeasuredHeld held = IsMeasuredCoin held.at held.coin

pub record IsMeasured (u : UndoRecord) : Type 0 where
  pub block : length u.block.0 ≡ 32
  pub ops : AllByRecursion IsMeasuredOp u.ops
  pub expired : AllByRecursion IsMeasuredHeld u.expired
