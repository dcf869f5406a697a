use Rattle.std.proofs.Common.{◌≡◌, length}
use Rattle.name_snapshot.specs.Reading.{passed_from}
use Rattle.name_snapshot.proofs.head.passed_at.Given as goal

abbrev pub invariant-loop-wanted : goal.invariant-loop-wanted
invariant-loop-wanted l = passed_from l.want l.bytes ≡ passed_from l.wanted l.rest

abbrev pub decreases-loop-wanted : goal.decreases-loop-wanted
decreases-loop-wanted l = length l.wanted
