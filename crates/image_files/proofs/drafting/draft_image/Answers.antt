use Rattle.std.proofs.Common.{ℕ, ap, subst}
use Rattle.std.specs.Prelude.{OnOk}
use Rattle.disk_model.specs.Moments.{EachMoment}
use Rattle.disk_model.specs.Changes.{LeavesOthers}
use Rattle.disk_model.specs.DiskSeen.{file_in}
use Rattle.image_slots.specs.Selections.{drafted_by}
use Rattle.image_slots.specs.Drafted.{Drafted}
use Rattle.image_files.specs.Saving.{HasImage}
use Rattle.image_files.proofs.PieceLemmas.{others_then}
use Rattle.image_files.proofs.drafting.draft_image.Goals as goal

pub returns-clause-holds : goal.returns-clause-holds
returns-clause-holds g c = λ tells.
    let new = g.D.Disk.seen c.write_draft.new.disk in
    let file_is = ap (λ (d : Drafted). d.file) c.in_ok-draft.ensures.ok in
    subst (λ (file : ℕ). OnOk c.write_draft.result (HasImage c.args.text (file_in new file))) file_is (c.write_draft.ensures.holds tells)

pub returns-clause-others : goal.returns-clause-others
returns-clause-others g c = λ tells.
    let old = (g.D.Disk.seen c.args.disk.now).moments in
    let mid = (g.D.Disk.seen c.begin.new.disk).moments in
    let new = (g.D.Disk.seen c.write_draft.new.disk).moments in
    let file_is = ap (λ (d : Drafted). d.file) c.in_ok-draft.ensures.ok in
    others_then (drafted_by c.args.slots.now.count) old mid new (c.begin.ensures.others tells) (subst (λ (file : ℕ). EachMoment (LeavesOthers file mid.now) mid new) file_is (c.write_draft.ensures.others tells))
