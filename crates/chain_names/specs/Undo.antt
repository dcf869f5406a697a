-- What undoes a block.
use Rattle.std.specs.Prelude.{List}
use Rattle.nmc_base.specs.declared.hashes.Hash32.{Hash32}
use Rattle.chain_names.specs.declared.coin.HeldCoin.{HeldCoin}
use Rattle.chain_names.specs.declared.undo.UndoOp.{UndoOp}

-- the block's hash, its operations on names in order, and the coins that expired with it, by their outpoints
pub record UndoRecord : Type 0 where
  pub block : Hash32
  pub ops : List UndoOp
  pub expired : List HeldCoin
