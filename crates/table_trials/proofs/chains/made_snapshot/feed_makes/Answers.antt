use Rattle.std.proofs.Common.{◌++◌, ◌∙◌, rules}
use Rattle.table_trials.proofs.chains.made_snapshot.feed_makes.Goals as goal

pub loop-number-preserved : goal.loop-number-preserved
loop-number-preserved c =
    let has = c.loop-number.invariant.read in
    record {
      read = (has.0 ++ c.make_of.result, c.in_ok-piece.ensures.takes has.0 has.1);
      fed = search rules;
      base = c.piece.ensures.base ∙ c.loop-number.invariant.base;
    }
