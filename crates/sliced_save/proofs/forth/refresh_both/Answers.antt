use Rattle.std.proofs.Common.{ap, ◌∙◌}
use Rattle.sliced_save.specs.Changes.{refreshed_point}
use Rattle.sliced_save.proofs.forth.refresh_both.Goals as goal

pub returns-clause-coins : goal.returns-clause-coins
returns-clause-coins g c = c.in_ok-refresh_point-2.ensures.coins ∙ ap (refreshed_point c.args.table.now c.args.spent) c.in_ok-refresh_point.ensures.coins
