use Rattle.std.proofs.Common.{◌≡◌, ◌++◌, length}
use Rattle.shared_chunks.proofs.leaf.copied.Given as goal

abbrev pub invariant-loop-rest : goal.invariant-loop-rest
invariant-loop-rest g l = l.copy.items ++ l.rest ≡ l.entries

abbrev pub decreases-loop-rest : goal.decreases-loop-rest
decreases-loop-rest g l = length l.rest
