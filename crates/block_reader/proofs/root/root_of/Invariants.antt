use Rattle.std.proofs.Common.{◌≡◌, ◌≤◌, length}
use Rattle.block_grammar.specs.Merkle.{merkle_root_of}
use Rattle.block_reader.specs.Rows.{seen_row}
use Rattle.block_reader.proofs.root.root_of.Given as goal

abbrev pub invariant-loop-row : goal.invariant-loop-row
invariant-loop-row l = (1 ≤ length l.row.items) × (merkle_root_of (seen_row l.row.items) ≡ merkle_root_of (seen_row l.ids))

abbrev pub decreases-loop-row : goal.decreases-loop-row
decreases-loop-row l = length l.row.items
