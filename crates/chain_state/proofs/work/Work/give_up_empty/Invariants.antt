use Rattle.std.proofs.Common.{◌+◌, ◌*◌, ◌≤◌, length}
use Rattle.chain_state.proofs.PlaceLemmas.{IsGivingUp}
use Rattle.chain_state.proofs.work.Work.give_up_empty.Given as goal

abbrev pub invariant-loop-at : goal.invariant-loop-at
invariant-loop-at g l =
    IsGivingUp l.fn.self l.self
    × (l.steps + 2 * length l.self.empty.items ≤ l.fn.steps + 2 * length l.fn.self.empty.items)

abbrev pub decreases-loop-at : goal.decreases-loop-at
decreases-loop-at g l = length l.self.empty.items
