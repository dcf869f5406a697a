use Rattle.std.proofs.Common.{subst}
use Rattle.name_tables.specs.Taking.{TakesDue}
use Rattle.name_tables.proofs.ExpiryLemmas.{row_expired}
use Rattle.name_tables.proofs.tables.Tables.expire.Goals as goal

pub returns-clause-ok : goal.returns-clause-ok
returns-clause-ok g c =
    row_expired _ _ _ c.in_ok-points.points.items _ c.requires.queue c.in_ok-points.ensures.all
    (subst (λ points. TakesDue c.args.self.now c.take_due.new.self c.args.row points c.take_due.new.expired.items) c.deref.ensures.value c.take_due.ensures.due)
