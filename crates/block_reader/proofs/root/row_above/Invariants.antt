use Rattle.std.proofs.Common.{◌≡◌, ◌++◌, length}
use Rattle.block_grammar.specs.Merkle.{paired_row}
use Rattle.block_reader.specs.Rows.{seen_row}
use Rattle.block_reader.proofs.root.row_above.Given as goal

abbrev pub invariant-loop-rest : goal.invariant-loop-rest
invariant-loop-rest l = seen_row l.above.items ++ paired_row (seen_row l.rest) ≡ paired_row (seen_row l.row)

abbrev pub decreases-loop-rest : goal.decreases-loop-rest
decreases-loop-rest l = length l.rest
