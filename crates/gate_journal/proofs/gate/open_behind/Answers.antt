use Rattle.std.proofs.Common.{ℕ, List, subst}
use Rattle.disk_model.specs.Moments.{EachMoment}
use Rattle.disk_model.specs.Changes.{Changes}
use Rattle.gate_journal.specs.Writes.{IsSettledBut}
use Rattle.gate_journal.proofs.WriteLemmas.{opening_synced, opening_done}
use Rattle.gate_journal.proofs.gate.open_behind.Goals as goal

pub returns-in_err-sync-clause-any_moment : goal.returns-in_err-sync-clause-any_moment
returns-in_err-sync-clause-any_moment g c = λ tells.
    opening_synced c.args.file c.args.gate _ (g.D.Disk.seen c.args.disk.now).moments (g.D.Disk.seen c.sync.new.self).moments (c.sync.ensures.time tells)

pub returns-clause-any_moment : goal.returns-clause-any_moment
returns-clause-any_moment g c = λ tells.
    let m1 = (g.D.Disk.seen c.sync.new.self).moments in
    let m2 = (g.D.Disk.seen c.write_gate.new.disk).moments in
    opening_done c.args.file c.args.gate _ (g.D.Disk.seen c.args.disk.now).moments m1 (c.sync.ensures.time tells) m2
    (subst (λ (l : List ℕ). EachMoment (Changes c.args.file (λ _ new. IsSettledBut c.args.gate l new) m1.now) m1 m2) (c.in_ok-sync.ensures.same tells) (c.write_gate.ensures.any_moment tells))
