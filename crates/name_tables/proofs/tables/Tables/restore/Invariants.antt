use Rattle.std.proofs.Common.{ℕ, ◌+◌, ◌*◌, ◌≤◌, length}
use Rattle.name_tables.proofs.RestoreLemmas.{IsReturning}
use Rattle.name_tables.proofs.tables.Tables.restore.Given as goal

abbrev pub invariant-loop-at : goal.invariant-loop-at
invariant-loop-at g l =
    (row : ℕ) × IsReturning l.fn.self l.self row l.fn.expired.items l.expired.items
    × (l.steps + 2 * length l.expired.items ≤ l.fn.steps + 2 * length l.fn.expired.items)

abbrev pub decreases-loop-at : goal.decreases-loop-at
decreases-loop-at g l = length l.expired.items
