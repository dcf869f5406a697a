use Rattle.std.proofs.Common.{◌+◌, ◌*◌, ◌≤◌, length}
use Rattle.name_tables.specs.Places.{spends, spends_at}
use Rattle.name_tables.proofs.RoomLemmas.{IsPlacing}
use Rattle.name_tables.proofs.tables.Tables.place_all_spent.Given as goal

abbrev pub invariant-loop-rest : goal.invariant-loop-rest
invariant-loop-rest g l =
    IsPlacing spends spends_at l.fn.self l.self l.ops l.rest
    × (l.steps + 2 * length l.rest ≤ l.fn.steps + 2 * length l.ops)

abbrev pub decreases-loop-rest : goal.decreases-loop-rest
decreases-loop-rest g l = length l.rest
