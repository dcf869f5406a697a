use Rattle.std.proofs.Common.{arith, ◌∙◌}
use Rattle.import_expand.proofs.ExpandLemmas.{one_fits, none_fits}
use Rattle.import_expand.proofs.expansion.add_one.Goals as goal

pub returns-then-len-eq-MOST_SOURCES-clause-added : goal.returns-then-len-eq-MOST_SOURCES-clause-added
returns-then-len-eq-MOST_SOURCES-clause-added c = none_fits c.args.found.now.items c.args.number (omega arith)

pub returns-clause-added : goal.returns-clause-added
returns-clause-added c = c.in_ok-push.ensures.items ∙ one_fits c.args.found.now.items c.args.number (omega arith)
