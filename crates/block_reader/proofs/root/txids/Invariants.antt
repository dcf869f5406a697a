use Rattle.std.proofs.Common.{◌≡◌, ◌++◌, map}
use Rattle.block_grammar.specs.Transaction.{txid_of}
use Rattle.block_reader.specs.Rows.{seen_row}
use Rattle.block_reader.proofs.root.txids.Given as goal

abbrev pub invariant-loop-tx : goal.invariant-loop-tx
invariant-loop-tx l =
    (goal.iterator-loop-tx).can_next l.tx-iterator ×
    (goal.iterator-loop-tx).is_finite l.tx-iterator ×
    (seen_row l.ids.items ++ map txid_of l.tx-iterator ≡ map txid_of l.fn.block.transactions)
