use Rattle.std.proofs.Common.{◌≡◌, ◌+◌, ◌*◌, ◌≤◌, length}
use Rattle.sliced_save.specs.Changes.{grown_ops}
use Rattle.sliced_save.specs.Mirror.{items_at}
use Rattle.sliced_save.proofs.forth.grow_ops.Given as goal

abbrev pub invariant-loop-rest : goal.invariant-loop-rest
invariant-loop-rest g l = (grown_ops l.table l.rest (items_at l.names) ≡ grown_ops l.table l.ops (items_at l.fn.names)) × (l.steps + 3 * length l.rest ≤ l.initial.steps + 3 * length l.ops)

abbrev pub decreases-loop-rest : goal.decreases-loop-rest
decreases-loop-rest g l = length l.rest
