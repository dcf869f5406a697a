use Rattle.std.proofs.Common.{◌≡◌, ℕ, [], sym, ◌∙◌, ap, subst}
use Rattle.std.specs.Prelude.{OnOk}
use Rattle.disk_model.specs.Moments.{EachMoment}
use Rattle.disk_model.specs.Changes.{LeavesOthers}
use Rattle.disk_model.specs.DiskSeen.{bytes_in, file_in}
use Rattle.image_slots.specs.Drafted.{Drafted}
use Rattle.image_files.specs.Saving.{HasImage}
use Rattle.image_files.proofs.PieceLemmas.{none_written, image_area, image_whole, others_then}
use Rattle.image_files.proofs.drafting.write_draft.Goals as goal

pub write_pieces-requires-clause-holds : goal.write_pieces-requires-clause-holds
write_pieces-requires-clause-holds g c = λ tells.
    let draft = c.args.draft in
    (c.args.text, none_written c.args.text draft (bytes_in (g.D.Disk.seen c.args.disk.now) draft.file) (c.requires.holds tells))

pub finish-requires-clause-holds : goal.finish-requires-clause-holds
finish-requires-clause-holds g c = λ tells.
    let draft = c.args.draft in
    (c.args.text, c.in_ok-drafted.ensures.holds tells c.args.text (none_written c.args.text draft (bytes_in (g.D.Disk.seen c.args.disk.now) draft.file) (c.requires.holds tells)))

pub returns-clause-holds : goal.returns-clause-holds
returns-clause-holds g c = λ tells.
    let draft = c.args.draft in
    let drafted = c.in_ok-drafted.drafted in
    let mid = g.D.Disk.seen c.write_pieces.new.disk in
    let new = g.D.Disk.seen c.finish.new.disk in
    let file_is = ap (λ (d : Drafted). d.file) c.in_ok-drafted.ensures.ok in
    let written = c.in_ok-drafted.ensures.holds tells c.args.text (none_written c.args.text draft (bytes_in (g.D.Disk.seen c.args.disk.now) draft.file) (c.requires.holds tells)) in
    let all : drafted.written ≡ drafted.image = ap (λ (d : Drafted). d.written) c.in_ok-drafted.ensures.ok ∙ sym (ap (λ (d : Drafted). d.image) c.in_ok-drafted.ensures.ok) in
    let has = image_area drafted c.args.text (bytes_in mid drafted.file) written all in
    subst (λ (file : ℕ). OnOk c.finish.result (HasImage c.args.text (file_in new file))) file_is
    (image_whole c.finish.result drafted c.args.text (file_in new drafted.file) has.size (c.finish.ensures.whole tells c.args.text written) (c.finish.ensures.area tells c.args.text [] has))

pub returns-clause-others : goal.returns-clause-others
returns-clause-others g c = λ tells.
    let old = (g.D.Disk.seen c.args.disk.now).moments in
    let mid = (g.D.Disk.seen c.write_pieces.new.disk).moments in
    let new = (g.D.Disk.seen c.finish.new.disk).moments in
    let file_is = ap (λ (d : Drafted). d.file) c.in_ok-drafted.ensures.ok in
    others_then c.args.draft.file old mid new (c.write_pieces.ensures.others tells) (subst (λ (file : ℕ). EachMoment (LeavesOthers file mid.now) mid new) file_is (c.finish.ensures.others tells))
