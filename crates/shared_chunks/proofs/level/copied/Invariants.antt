use Rattle.std.proofs.Common.{◌≡◌, ◌++◌, length}
use Rattle.shared_chunks.proofs.level.copied.Given as goal

abbrev pub invariant-loop-sub : goal.invariant-loop-sub
invariant-loop-sub g l = l.copy.items ++ l.rest ≡ l.subs

abbrev pub decreases-loop-sub : goal.decreases-loop-sub
decreases-loop-sub g l = length l.rest
