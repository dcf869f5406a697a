use Rattle.std.proofs.Common.{◌+◌, ◌*◌, ◌≤◌, [], length}
use Rattle.name_tables.specs.Places.{AreFilledBut}
use Rattle.name_tables.specs.Tables.{HoldSame}
use Rattle.name_tables.proofs.tables.Tables.clear_expired.Given as goal

abbrev pub invariant-loop-rest : goal.invariant-loop-rest
invariant-loop-rest g l =
    HoldSame l.fn.self l.self
    × (AreFilledBut l.fn.self [] l.expired → AreFilledBut l.self [] l.rest)
    × (l.steps + 2 * length l.rest ≤ l.fn.steps + 2 * length l.expired)

abbrev pub decreases-loop-rest : goal.decreases-loop-rest
decreases-loop-rest g l = length l.rest
