use Rattle.std.proofs.Common.{sym, subst}
use Rattle.table_trials.specs.Images.{AreShort}
use Rattle.table_trials.proofs.images.histories.Goals as goal

pub returns : goal.returns
returns g c = c.push-3.ensures (c.push-2.ensures (c.push.ensures (subst AreShort (sym c.in_ok-names.ensures.empty) (λ name. tt))))
