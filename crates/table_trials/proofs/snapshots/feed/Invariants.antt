use Rattle.std.proofs.Common.{◌≡◌, ◌+◌, length}
use Rattle.table_trials.proofs.snapshots.feed.Given as goal

abbrev pub invariant-loop-rest : goal.invariant-loop-rest
invariant-loop-rest l = l.snapshot.fed + length l.rest ≡ l.fn.snapshot.fed + length l.text

abbrev pub decreases-loop-rest : goal.decreases-loop-rest
decreases-loop-rest l = length l.rest
