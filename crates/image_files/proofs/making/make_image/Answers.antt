use Rattle.std.proofs.Common.{ℕ, ap, subst}
use Rattle.disk_model.specs.Moments.{EachMoment}
use Rattle.disk_model.specs.Changes.{LeavesOthers}
use Rattle.disk_model.specs.DiskSeen.{file_in}
use Rattle.image_slots.specs.Drafted.{Drafted}
use Rattle.image_files.specs.Saving.{HasImage}
use Rattle.image_files.proofs.PieceLemmas.{others_then}
use Rattle.image_files.proofs.making.make_image.Goals as goal

pub returns-clause-made : goal.returns-clause-made
returns-clause-made g c = λ tells.
    let new = g.D.Disk.seen c.write_draft.new.disk in
    let file_is = ap (λ (d : Drafted). d.file) c.in_ok-draft.ensures.ok in
    subst (λ (file : ℕ). HasImage c.args.text (file_in new file)) file_is (c.in_ok-write_draft.ensures.holds tells)

pub returns-in_err-write_draft-clause-others : goal.returns-in_err-write_draft-clause-others
returns-in_err-write_draft-clause-others g c = λ tells.
    let old = (g.D.Disk.seen c.args.disk.now).moments in
    let mid = (g.D.Disk.seen c.begin_draft.new.disk).moments in
    let new = (g.D.Disk.seen c.write_draft.new.disk).moments in
    let file_is = ap (λ (d : Drafted). d.file) c.in_ok-draft.ensures.ok in
    others_then c.args.file old mid new (c.begin_draft.ensures.others tells) (subst (λ (file : ℕ). EachMoment (LeavesOthers file mid.now) mid new) file_is (c.write_draft.ensures.others tells))

pub returns-clause-others : goal.returns-clause-others
returns-clause-others g c = λ tells.
    let old = (g.D.Disk.seen c.args.disk.now).moments in
    let mid = (g.D.Disk.seen c.begin_draft.new.disk).moments in
    let new = (g.D.Disk.seen c.write_draft.new.disk).moments in
    let file_is = ap (λ (d : Drafted). d.file) c.in_ok-draft.ensures.ok in
    others_then c.args.file old mid new (c.begin_draft.ensures.others tells) (subst (λ (file : ℕ). EachMoment (LeavesOthers file mid.now) mid new) file_is (c.write_draft.ensures.others tells))
