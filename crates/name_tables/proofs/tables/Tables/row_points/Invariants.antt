use Rattle.std.proofs.Common.{◌≡◌, ◌+◌, ◌≤◌, take}
use Rattle.chain_names.specs.Tables.{row_points}
use Rattle.name_tables.proofs.tables.Tables.row_points.Given as goal

abbrev pub invariant-loop-i : goal.invariant-loop-i
invariant-loop-i g l = (l.points.items ≡ take l.i (row_points l.self.queue l.row)) × (l.steps ≤ l.fn.steps + 1 + l.i)
