use Rattle.std.proofs.Common.{◌≡◌, ◌<◌, length, Err, sym, ap, subst}
use Rattle.disk_model.specs.FileState.{IsSettled}
use Rattle.disk_model.specs.Moments.{Files}
use Rattle.disk_model.specs.DiskSeen.{bytes_in}
use Rattle.disk_model.proofs.MomentLemmas.{last_moment}
use Rattle.gate_journal.specs.Records.{image_front}
use Rattle.gate_journal.proofs.ReadLemmas.{unchanged_then}
use Rattle.image_files.specs.Fronts.{image_at}
use Rattle.image_files.specs.Reading.{IsReadFrom}
use Rattle.name_store.specs.Opening.{AreaAnswer}
use Rattle.name_store.proofs.OpenLemmas.{front_stands, area_followed, area_unfollowed}
use Rattle.name_store.proofs.opening.read_area.Goals as goal

pub follow_commands-requires-clause-settled : goal.follow_commands-requires-clause-settled
follow_commands-requires-clause-settled g c = λ told. subst (λ (files : Files). IsSettled (files c.args.file)) (sym (last_moment (c.read_image.ensures.only.unchanged told))) (c.requires.settled told)

pub follow_commands-requires-clause-inside : goal.follow_commands-requires-clause-inside
follow_commands-requires-clause-inside g c = λ told.
    let r : IsReadFrom c.args.base (bytes_in (g.D.Disk.seen c.args.disk.now) c.args.file) c.in-Ok.begun.0 c.in-Ok.begun.1 = c.in-Ok.ensures.answer told in
    subst (λ (files : Files). c.in-Ok.begun.1 < length (files c.args.file).bytes) (sym (last_moment (c.read_image.ensures.only.unchanged told))) r.inside

pub returns-in-Ok-follow_commands-clause-answer : goal.returns-in-Ok-follow_commands-clause-answer
returns-in-Ok-follow_commands-clause-answer g c = λ told.
    let tells = g.D.Disk.tells in
    let file = c.args.file in
    let area = bytes_in (g.D.Disk.seen c.args.disk.now) file in
    let mid = bytes_in (g.D.Disk.seen c.read_image.new.disk) file in
    let same : mid ≡ area = ap (λ (files : Files). (files file).bytes) (last_moment (c.read_image.ensures.only.unchanged told)) in
    let r : IsReadFrom c.args.base area c.in-Ok.begun.0 c.in-Ok.begun.1 = c.in-Ok.ensures.answer told in
    area_followed tells told c.args.base file area mid same c.in-Ok.begun.0 c.in-Ok.begun.1 r c.in-Ok-follow_commands.followed
    (c.in-Ok-follow_commands.ensures.answer (image_front (image_at area)) r.gate_is (λ told. front_stands tells told c.args.base file area mid same c.in-Ok.begun.0 c.in-Ok.begun.1 r))

pub returns-in-Err-follow_commands-clause-answer : goal.returns-in-Err-follow_commands-clause-answer
returns-in-Err-follow_commands-clause-answer g c = λ told.
    let tells = g.D.Disk.tells in
    let file = c.args.file in
    let area = bytes_in (g.D.Disk.seen c.args.disk.now) file in
    let mid = bytes_in (g.D.Disk.seen c.read_image.new.disk) file in
    let same : mid ≡ area = ap (λ (files : Files). (files file).bytes) (last_moment (c.read_image.ensures.only.unchanged told)) in
    let r : IsReadFrom c.args.base area c.in-Ok.begun.0 c.in-Ok.begun.1 = c.in-Ok.ensures.answer told in
    subst (λ e. AreaAnswer tells c.args.base file area (Err e)) (sym c.of_journal.ensures)
    (area_unfollowed tells told c.args.base file area mid same c.in-Ok.begun.0 c.in-Ok.begun.1 r c.in-Err-follow_commands.fault
    (c.in-Err-follow_commands.ensures.answer (image_front (image_at area)) r.gate_is (λ told. front_stands tells told c.args.base file area mid same c.in-Ok.begun.0 c.in-Ok.begun.1 r)))

pub returns-in-Ok-follow_commands-clause-time : goal.returns-in-Ok-follow_commands-clause-time
returns-in-Ok-follow_commands-clause-time g c = λ told. unchanged_then (c.read_image.ensures.only.unchanged told) (c.follow_commands.ensures.unchanged told)

pub returns-in-Err-follow_commands-clause-time : goal.returns-in-Err-follow_commands-clause-time
returns-in-Err-follow_commands-clause-time g c = λ told. unchanged_then (c.read_image.ensures.only.unchanged told) (c.follow_commands.ensures.unchanged told)
