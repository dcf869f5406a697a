use Rattle.std.proofs.Common.{◌+◌, ◌*◌, ◌≤◌, length}
use Rattle.chain_state.proofs.UndoneLemmas.{IsGoingBack}
use Rattle.chain_state.proofs.work.Work.undo_all.Given as goal

abbrev pub invariant-loop-op : goal.invariant-loop-op
invariant-loop-op g l =
    IsGoingBack l.fn.self l.self
    × (length l.self.empty.items + length l.self.ops.items ≤ length l.fn.self.empty.items + length l.fn.self.ops.items)
    × (l.steps + 6 * length l.self.ops.items ≤ l.fn.steps + 6 * length l.fn.self.ops.items)

abbrev pub decreases-loop-op : goal.decreases-loop-op
decreases-loop-op g l = length l.self.ops.items
