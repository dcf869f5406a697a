-- Disconnecting the newest block of a chain.
use Rattle.std.specs.Prelude.{◌≡◌, ℕ, List, ◌∷◌}
use Rattle.nmc_base.specs.Roomy.{Roomy}
use Rattle.nmc_base.specs.declared.chain_ends.Base.{Base}
use Rattle.nmc_base.specs.declared.chain_ends.Tip.{Tip}
use Rattle.nmc_base.specs.declared.hashes.OutPoint.{OutPoint}
use Rattle.chain_names.specs.declared.coin.HeldCoin.{HeldCoin}
use Rattle.chain_names.specs.declared.undo.UndoOp.{UndoOp}
use Rattle.chain_names.specs.Undo.{UndoRecord}
use Rattle.chain_names.specs.Sound.{IsSound}
use Rattle.chain_names.specs.declared.undo.Undo.{Undo}
use Rattle.name_tables.specs.Tables.{maps_by}
use Rattle.chain_state.specs.Whole.{IsWhole}
use Rattle.chain_state.specs.Chain.{index_of, newest_hash}
use Rattle.name_tables.specs.declared.tables.Tables.{Tables}
use Rattle.chain_state.specs.declared.whole.Whole.{Whole}

-- the block's work as it stands in the tables, with what undoes it
abbrev pub block_work : Tables → Roomy UndoOp → Roomy HeldCoin → Roomy OutPoint → ℕ → Whole
block_work tables ops expired empty height = record { work = record { tables = tables; ops = ops; empty = empty; height = height }; expired = expired }

-- The tables have every place that undoing the newest block needs.
pub record IsStagedBack (base : Base) (tip : Tip) (tables : Tables) (undos : Roomy Undo) (empty : Roomy OutPoint) : Type 0 where
  pub undo : UndoRecord
  pub below : List UndoRecord
  pub undos_are : (index_of base tip tables undos).undos ≡ undo ∷ below
  pub whole : (ops : Roomy UndoOp) (expired : Roomy HeldCoin) → ops.items ≡ undo.ops → expired.items ≡ undo.expired
      → IsWhole (block_work tables ops expired empty tip.height)
  pub hash : tip.hash ≡ newest_hash base (undo ∷ below)
  pub sound : IsSound base.profile base.height tip.height (maps_by tables) (undo ∷ below)
