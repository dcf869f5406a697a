use Rattle.std.proofs.Common.{[], ◌++◌}
use Rattle.name_snapshot.specs.Text.{mark}
use Rattle.table_trials.proofs.chains.made_snapshot.feed.Goals as goal

pub feed_makes-requires-clause-read : goal.feed_makes-requires-clause-read
feed_makes-requires-clause-read c = (mark ++ c.to_le_bytes.result, c.in_ok-piece-2.ensures.takes mark (c.in_ok-piece.ensures.takes [] c.requires))
