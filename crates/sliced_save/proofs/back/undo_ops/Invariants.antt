use Rattle.std.proofs.Common.{◌≡◌, ◌+◌, ◌*◌, ◌≤◌, length}
use Rattle.std.specs.List.{AllByRecursion}
use Rattle.chain_names.specs.Changes.{back_ops}
use Rattle.chain_names.specs.Limits.{IsWithinLimitsOp}
use Rattle.sliced_save.specs.Mirror.{maps_at}
use Rattle.sliced_save.proofs.back.undo_ops.Given as goal

abbrev pub invariant-loop-op : goal.invariant-loop-op
invariant-loop-op g l = AllByRecursion IsWithinLimitsOp l.rest × (back_ops l.rest (maps_at l.coins l.names) ≡ back_ops l.ops (maps_at l.fn.coins l.fn.names)) × (l.steps + 6 * length l.rest ≤ l.initial.steps + 6 * length l.ops)

abbrev pub decreases-loop-op : goal.decreases-loop-op
decreases-loop-op g l = length l.rest
