use Rattle.std.proofs.Common.{◌≡◌, ◌+◌, ◌*◌, ◌≤◌, map}
use Rattle.block_grammar.specs.Transaction.{txid_of}
use Rattle.block_reader.specs.Rows.{seen_row}
use Rattle.chain_state.specs.Cost.{owed_for, all_touched}
use Rattle.chain_state.proofs.TransactionLemmas.{IsOn}
use Rattle.chain_state.proofs.work.Work.apply_all.Given as goal

abbrev pub invariant-loop-tx : goal.invariant-loop-tx
invariant-loop-tx g l =
    (goal.iterator-loop-tx g).can_next l.tx-iterator ×
    (goal.iterator-loop-tx g).is_finite l.tx-iterator ×
    IsOn l.profile l.fn.self l.self l.fn.txs l.tx-iterator l.index ×
    (seen_row l.left ≡ map txid_of l.tx-iterator) ×
    (l.steps + owed_for l.self.ops.items + 8 * all_touched l.tx-iterator ≤ l.fn.steps + 8 * all_touched l.fn.txs)
