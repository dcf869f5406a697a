use Rattle.std.proofs.Common.{◌≡◌, ◌+◌, ◌*◌, ◌≤◌, length}
use Rattle.sliced_save.specs.Changes.{refreshed_helds}
use Rattle.sliced_save.specs.Mirror.{coin_at}
use Rattle.sliced_save.proofs.forth.refresh_helds.Given as goal

abbrev pub invariant-loop-rest : goal.invariant-loop-rest
invariant-loop-rest g l = (refreshed_helds l.table l.rest (coin_at l.coins) ≡ refreshed_helds l.table l.helds (coin_at l.fn.coins)) × (l.steps + 3 * length l.rest ≤ l.initial.steps + 3 * length l.helds)

abbrev pub decreases-loop-rest : goal.decreases-loop-rest
decreases-loop-rest g l = length l.rest
