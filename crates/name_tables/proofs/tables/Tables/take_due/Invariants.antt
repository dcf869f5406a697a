use Rattle.std.proofs.Common.{◌+◌, ◌*◌, ◌≤◌, length}
use Rattle.name_tables.proofs.ExpiryLemmas.{IsTaking}
use Rattle.name_tables.proofs.tables.Tables.take_due.Given as goal

abbrev pub invariant-loop-rest : goal.invariant-loop-rest
invariant-loop-rest g l =
    IsTaking l.fn.self l.row l.points (record { now = l.self; points = l.rest; expired = l.expired })
    × (l.steps + length l.rest ≤ l.fn.steps + length l.points + 2 * length l.expired.items)

abbrev pub decreases-loop-rest : goal.decreases-loop-rest
decreases-loop-rest g l = length l.rest
