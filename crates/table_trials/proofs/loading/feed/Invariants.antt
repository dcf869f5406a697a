use Rattle.std.proofs.Common.{◌≡◌, ◌+◌, length}
use Rattle.table_trials.proofs.loading.feed.Given as goal

abbrev pub invariant-loop-rest : goal.invariant-loop-rest
invariant-loop-rest l = record {
  fed : l.loader.fed + length l.rest ≡ l.fn.loader.fed + length l.text;
  total : l.loader.total ≡ l.fn.loader.total;
}

abbrev pub decreases-loop-rest : goal.decreases-loop-rest
decreases-loop-rest l = length l.rest
