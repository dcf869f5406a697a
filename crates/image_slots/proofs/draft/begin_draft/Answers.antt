use Rattle.disk_model.specs.Changes.{AfterCut}
use Rattle.image_slots.proofs.DraftLemmas.{leaves, leaves_more}
use Rattle.image_slots.proofs.draft.begin_draft.Goals as goal

pub returns-in_err-cut-clause-others : goal.returns-in_err-cut-clause-others
returns-in_err-cut-clause-others g c = λ tells.
    leaves c.args.file (AfterCut 0) (g.D.Disk.seen c.args.disk.now).moments (g.D.Disk.seen c.cut.new.self).moments (c.cut.ensures.time tells)

pub returns-in_err-write_at-clause-others : goal.returns-in_err-write_at-clause-others
returns-in_err-write_at-clause-others g c = λ tells.
    let old = (g.D.Disk.seen c.args.disk.now).moments in
    let m1 = (g.D.Disk.seen c.cut.new.self).moments in
    leaves_more c.args.file _ old m1 (g.D.Disk.seen c.write_at.new.self).moments (leaves c.args.file (AfterCut 0) old m1 (c.cut.ensures.time tells)) (c.write_at.ensures.time tells)

pub returns-clause-others : goal.returns-clause-others
returns-clause-others g c = λ tells.
    let old = (g.D.Disk.seen c.args.disk.now).moments in
    let m1 = (g.D.Disk.seen c.cut.new.self).moments in
    leaves_more c.args.file _ old m1 (g.D.Disk.seen c.write_at.new.self).moments (leaves c.args.file (AfterCut 0) old m1 (c.cut.ensures.time tells)) (c.write_at.ensures.time tells)
