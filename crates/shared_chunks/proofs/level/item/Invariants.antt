use Rattle.std.proofs.Common.{◌≡◌, length}
use Rattle.std.specs.List.{slice_get}
use Rattle.shared_chunks.specs.Joined.{joined}
use Rattle.shared_chunks.proofs.level.item.Given as goal

abbrev pub invariant-loop-sub : goal.invariant-loop-sub
invariant-loop-sub g l = slice_get (joined l.rest) l.left ≡ slice_get (joined l.subs) l.i

abbrev pub decreases-loop-sub : goal.decreases-loop-sub
decreases-loop-sub g l = length l.rest
