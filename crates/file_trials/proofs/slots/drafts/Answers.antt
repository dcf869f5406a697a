use Rattle.std.proofs.Common.{◌≡◌, ◌<◌, ℕ, sym, ◌∙◌, ap, subst, arith}
use Rattle.disk_model.specs.Moments.{Moments, EachMoment}
use Rattle.disk_model.specs.Changes.{LeavesOthers}
use Rattle.disk_model.specs.DiskSeen.{file_in}
use Rattle.disk_model.proofs.MomentLemmas.{last_moment}
use Rattle.image_slots.specs.Slotted.{Slotted, AreOn}
use Rattle.image_slots.specs.Drafted.{Drafted}
use Rattle.file_trials.proofs.slots.drafts.Goals as goal

-- what changes an area leaves the file of the selections
same_selections : (file : ℕ) (old new : Moments) → 0 < file → EachMoment (LeavesOthers file old.now) old new → new.now 0 ≡ old.now 0
same_selections file old new area each = last_moment each 0 (λ e. omega (arith, e, area))

pub piece-requires-2-clause-holds : goal.piece-requires-2-clause-holds
piece-requires-2-clause-holds g c = λ told. (_, c.in_ok-piece.ensures.holds told _ (c.in_ok-draft.ensures.begins.holds told))

pub finish-requires-clause-holds : goal.finish-requires-clause-holds
finish-requires-clause-holds g c = λ told. (_, c.in_ok-piece-2.ensures.holds told _ (c.in_ok-piece.ensures.holds told _ (c.in_ok-draft.ensures.begins.holds told)))

pub returns-clause-on_disk : goal.returns-clause-on_disk
returns-clause-on_disk g c = λ told.
    let m1 = (g.D.Disk.seen c.begin.new.disk).moments in
    let m2 = (g.D.Disk.seen c.piece.new.disk).moments in
    let m3 = (g.D.Disk.seen c.piece-2.new.disk).moments in
    let area : 0 < c.in_ok-draft.draft.file = omega (arith, ap (λ (d : Drafted). d.file) c.in_ok-draft.ensures.begins.answer.1) in
    let area_still : 0 < c.piece.new.self.file = omega (arith, area, ap (λ (d : Drafted). d.file) c.in_ok-piece.ensures.ok) in
    let area_yet : 0 < c.piece-2.new.self.file = omega (arith, area_still, ap (λ (d : Drafted). d.file) c.in_ok-piece-2.ensures.ok) in
    let same = same_selections c.piece-2.new.self.file m3 (g.D.Disk.seen c.finish.new.disk).moments area_yet (c.in_ok-ready.ensures.others told)
    ∙ same_selections c.piece.new.self.file m2 m3 area_still (c.in_ok-piece-2.ensures.others told)
    ∙ same_selections c.in_ok-draft.draft.file m1 m2 area (c.in_ok-piece.ensures.others told)
    ∙ same_selections _ (g.D.Disk.seen c.args.disk.now).moments m1 (omega arith) (c.in_ok-draft.ensures.begins.others told) in
    let on = c.requires.on_disk told in
    (on.0, subst (AreOn on.0 c.begin.new.self) (sym same) (subst (λ (s : Slotted). AreOn on.0 s (file_in (g.D.Disk.seen c.args.disk.now) 0)) (sym c.in_ok-draft.ensures.same) on.1))
