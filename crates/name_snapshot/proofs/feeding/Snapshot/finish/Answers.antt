use Rattle.std.proofs.Common.{sym, ap, subst, ◌∙◌}
use Rattle.std.specs.Prelude.{Ok, Err}
use Rattle.name_snapshot.specs.Answers.{IsSnapshotAnswer}
use Rattle.name_snapshot.specs.Feeding.{Feeding, HasRead, fault_at}
use Rattle.name_snapshot.proofs.FeedLemmas.{fault_answers, whole_answers}
use Rattle.name_snapshot.proofs.feeding.Snapshot.finish.Goals as goal

pub returns-in-Some-clause-whole : goal.returns-in-Some-clause-whole
returns-in-Some-clause-whole c = λ text has.
    let s = c.self.inside in
    subst (λ (f : Feeding). IsSnapshotAnswer f.base text (Err c.in-Some.fault)) c.self.view_is
    (fault_answers text s.reading s.pending s.fed s.stop (subst (HasRead text) (sym c.self.view_is) has) c.in-Some.fault (c.in-Some.ensures ∙ ap fault_at (sym c.self.view_is)))

pub returns-clause-whole : goal.returns-clause-whole
returns-clause-whole c = λ text has.
    let s = c.self.inside in
    subst (λ (f : Feeding). IsSnapshotAnswer f.base text (Ok c.split.result)) c.self.view_is
    (whole_answers text s.reading s.pending s.fed s.stop (subst (HasRead text) (sym c.self.view_is) has) (c.in-None.ensures ∙ ap fault_at (sym c.self.view_is)) c.split.result c.split.ensures.tables c.split.ensures.undos)
