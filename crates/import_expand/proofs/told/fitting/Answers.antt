use Rattle.std.proofs.Common.{arith}
use Rattle.import_expand.proofs.ToldLemmas.{take_short, take_long}
use Rattle.import_expand.proofs.told.fitting.Goals as goal

pub returns-then-count-room-clause-cut : goal.returns-then-count-room-clause-cut
returns-then-count-room-clause-cut c ns = take_short c.args.room c.args.count ns (omega arith)

pub returns-else-count-room-clause-cut : goal.returns-else-count-room-clause-cut
returns-else-count-room-clause-cut c ns = take_long c.args.room c.args.count ns (omega arith)
