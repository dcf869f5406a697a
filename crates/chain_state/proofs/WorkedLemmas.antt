-- A block's work is whole, or the tables are handed back.
use Rattle.std.proofs.Common.{◌≡◌, ℕ, ◌+◌, ◌*◌, ◌≤◌, List, length, ap, ◌∙◌, arith}
use Rattle.block_grammar.specs.Transaction.{Transaction}
use Rattle.nmc_base.specs.Roomy.{Roomy}
use Rattle.nmc_base.specs.declared.chain_ends.Profile.{Profile}
use Rattle.chain_names.specs.declared.undo.UndoOp.{UndoOp}
use Rattle.chain_names.specs.Changes.{undo_ops, back_ops}
use Rattle.chain_names.specs.Tables.{coins_in, queued_in, queue_of}
use Rattle.chain_names.proofs.BlockLemmas.{all_back}
use Rattle.name_tables.specs.Tables.{AreFilled}
use Rattle.name_tables.specs.Tables.{maps_by}
use Rattle.chain_state.specs.Block.{AppliedAll}
use Rattle.chain_state.specs.Cost.{owed_for, all_touched}
use Rattle.chain_state.specs.Work.{maps_before}
use Rattle.chain_state.specs.Worked.{HandsBack}
use Rattle.name_tables.specs.declared.tables.Tables.{Tables}
use Rattle.chain_state.specs.declared.whole.Whole.{Whole}
use Rattle.chain_state.specs.declared.work.Work.{Work}

-- what accepted transactions did, undone
pub applied_back : (profile : Profile) (old done : Work) (ts : List Transaction) → AppliedAll profile old done ts → maps_before done ≡ maps_by old.tables
applied_back profile old done ts applied =
    ap (λ ops. back_ops ops (maps_by done.tables)) applied.ops
    ∙ ap (back_ops (undo_ops profile old.height ts (maps_by old.tables))) applied.maps
    ∙ all_back profile old.height 1 ts (maps_by old.tables) applied.accepted

-- the work is undone, and the tables are handed back
pub handed_back : (old done : Work) (t : Tables) → maps_before done ≡ maps_by old.tables → maps_by t ≡ maps_before done → queued_in t.queue ≡ queue_of (coins_in t.coins) → AreFilled t
    → HandsBack old t
handed_back old done t before maps queue filled = record { maps = maps ∙ before; queue = queue; filled = filled }

pub whole_paid : (start applied finished : ℕ) (ts : List Transaction) (w : Work) (whole : Whole) → applied + owed_for w.ops.items ≤ start + 8 * all_touched ts → whole.work.ops ≡ w.ops
    → finished ≤ applied + 1 + 2 * length whole.work.ops.items + 4 * length whole.expired.items
    → finished + (2 * length whole.work.ops.items + 2 * length whole.expired.items) ≤ start + 8 * (all_touched ts + length whole.expired.items) + 8
whole_paid start applied finished ts w whole paid_for ops due =
    let count : length whole.work.ops.items ≡ length w.ops.items = ap (λ (l : Roomy UndoOp). length l.items) ops in
    omega (arith, count, paid_for, due)
