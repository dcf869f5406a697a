use Rattle.std.proofs.Common.{◌≡◌, ◌≤◌, ◌-◌, ◌++◌, length, take, drop}
use Rattle.block_grammar.specs.Merkle.{paired_row}
use Rattle.block_reader.specs.Rows.{seen_row}
use Rattle.block_reader.proofs.root.climb.Given as goal

abbrev pub invariant-loop-next : goal.invariant-loop-next
invariant-loop-next l =
    (l.made ≤ l.next) × (length l.row.items ≡ length l.initial.row.items) × (seen_row (take l.made l.row.items) ++ paired_row (seen_row (drop l.next l.row.items)) ≡ paired_row (seen_row l.initial.row.items))

abbrev pub decreases-loop-next : goal.decreases-loop-next
decreases-loop-next l = length l.row.items - l.next
