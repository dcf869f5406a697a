use Rattle.std.proofs.Common.{length}
use Rattle.shared_chunks.proofs.Between.{Between}
use Rattle.shared_chunks.proofs.leaf.place.Given as goal

abbrev pub invariant-loop-rest : goal.invariant-loop-rest
invariant-loop-rest g l = Between g.K.Ord.cmp l.entries l.key l.rest l.low

abbrev pub decreases-loop-rest : goal.decreases-loop-rest
decreases-loop-rest g l = length l.rest
