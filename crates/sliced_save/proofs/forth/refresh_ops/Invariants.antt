use Rattle.std.proofs.Common.{◌≡◌, ◌+◌, ◌*◌, ◌≤◌, length}
use Rattle.sliced_save.specs.Changes.{refreshed_ops}
use Rattle.sliced_save.specs.Mirror.{coin_at}
use Rattle.sliced_save.proofs.forth.refresh_ops.Given as goal

abbrev pub invariant-loop-rest : goal.invariant-loop-rest
invariant-loop-rest g l = (refreshed_ops l.table l.rest (coin_at l.coins) ≡ refreshed_ops l.table l.ops (coin_at l.fn.coins)) × (l.steps + 6 * length l.rest ≤ l.initial.steps + 6 * length l.ops)

abbrev pub decreases-loop-rest : goal.decreases-loop-rest
decreases-loop-rest g l = length l.rest
