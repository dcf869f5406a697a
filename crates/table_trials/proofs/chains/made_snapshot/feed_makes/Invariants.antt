use Rattle.std.proofs.Common.{◌≡◌, ℕ, ◌+◌, ◌*◌, List}
use Rattle.name_snapshot.specs.Feeding.{HasRead}
use Rattle.table_trials.proofs.chains.made_snapshot.feed_makes.Given as goal

abbrev pub invariant-loop-number : goal.invariant-loop-number
invariant-loop-number l = record {
  read : (text : List ℕ) × HasRead text l.snapshot;
  fed : l.snapshot.fed ≡ 9 + 54 * l.number;
  base : l.snapshot.base ≡ l.fn.snapshot.base;
}
