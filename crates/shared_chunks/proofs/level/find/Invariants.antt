use Rattle.std.proofs.Common.{length}
use Rattle.shared_chunks.proofs.Parts.{Around}
use Rattle.shared_chunks.proofs.level.find.Given as goal

abbrev pub invariant-loop-rest : goal.invariant-loop-rest
invariant-loop-rest g l = Around g.K.Ord.cmp l.subs l.key l.rest l.low

abbrev pub decreases-loop-rest : goal.decreases-loop-rest
decreases-loop-rest g l = length l.rest
