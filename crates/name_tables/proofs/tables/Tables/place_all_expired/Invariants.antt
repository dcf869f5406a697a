use Rattle.std.proofs.Common.{◌+◌, ◌*◌, ◌≤◌, length}
use Rattle.chain_names.specs.Expired.{is_held_at}
use Rattle.name_tables.specs.Places.{is_queued_at}
use Rattle.name_tables.proofs.RoomLemmas.{IsPlacing}
use Rattle.name_tables.proofs.tables.Tables.place_all_expired.Given as goal

abbrev pub invariant-loop-rest : goal.invariant-loop-rest
invariant-loop-rest g l =
    IsPlacing is_held_at is_queued_at l.fn.self l.self l.expired l.rest
    × (l.steps + 2 * length l.rest ≤ l.fn.steps + 2 * length l.expired)

abbrev pub decreases-loop-rest : goal.decreases-loop-rest
decreases-loop-rest g l = length l.rest
