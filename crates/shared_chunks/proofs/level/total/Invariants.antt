use Rattle.std.proofs.Common.{◌≡◌, ◌+◌, length}
use Rattle.shared_chunks.specs.Joined.{joined}
use Rattle.shared_chunks.proofs.level.total.Given as goal

abbrev pub invariant-loop-sub : goal.invariant-loop-sub
invariant-loop-sub g l = l.sum + length (joined l.rest) ≡ length (joined l.subs)

abbrev pub decreases-loop-sub : goal.decreases-loop-sub
decreases-loop-sub g l = length l.rest
