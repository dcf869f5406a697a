use Rattle.std.proofs.Common.{◌-◌}
use Rattle.name_snapshot.specs.SourceAnswers.{TakesUpTo}
use Rattle.name_snapshot.proofs.PieceLemmas.{HasFed}
use Rattle.name_snapshot.proofs.source_feeding.feed_source.Given as goal

abbrev pub invariant-pieces : goal.invariant-pieces
invariant-pieces g l = TakesUpTo l.limit (g.S.Source.seen l.fn.source) (g.S.Source.seen l.source) (HasFed l.fn.snapshot.base l.fed l.snapshot)

abbrev pub decreases-pieces : goal.decreases-pieces
decreases-pieces g l = l.limit - l.fed
