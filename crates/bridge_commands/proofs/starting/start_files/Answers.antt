use Rattle.std.proofs.Common.{Ok, Err, sym, subst}
use Rattle.std.specs.Prelude.{IsErrOf}
use Rattle.bridge_commands.specs.Starting.{StartsFrom}
use Rattle.bridge_commands.specs.declared.start_fault.StartFault.{StartFault}
use Rattle.bridge_commands.specs.declared.start_fault.StartFault.TheVariants.{Initialised}
use Rattle.bridge_commands.proofs.StartLemmas.{unfed, fed, still_shut}
use Rattle.bridge_commands.proofs.starting.start_files.Goals as goal

pub returns-in-Err-clause-starts : goal.returns-in-Err-clause-starts
returns-in-Err-clause-starts g c = λ name is_host.
    let disk = g.D.Disk.seen c.args.disk.now in
    let before = g.S.Source.seen c.args.source.now in
    let after = g.S.Source.seen c.read_snapshot.new.source in
    subst (λ (fault : StartFault). StartsFrom g.D.Disk.tells c.args.base.now name c.args.limit disk disk before after (Err fault)) (sym c.of_feed.ensures)
    (unfed g.D.Disk.tells c.args.base.now name c.args.limit disk before after c.requires.shut c.in-Err.fault c.in-Err.ensures)

pub returns-in-Ok-make_of-clause-starts : goal.returns-in-Ok-make_of-clause-starts
returns-in-Ok-make_of-clause-starts g c = λ name is_host.
    let reads = c.in-Ok.ensures in
    fed g.D.Disk.tells c.args.base.now name c.args.limit (g.D.Disk.seen c.args.disk.now) (g.S.Source.seen c.args.source.now) (g.S.Source.seen c.read_snapshot.new.source) c.requires.shut
    c.in-Ok.parts reads (g.D.Disk.seen c.make_of.new.disk) (Ok c.in-Ok-make_of.field-0) (c.in-Ok-make_of.ensures name is_host reads.taken reads.holds.1)

pub returns-in-Err-make_of-clause-starts : goal.returns-in-Err-make_of-clause-starts
returns-in-Err-make_of-clause-starts g c = λ name is_host.
    let old = g.D.Disk.seen c.args.disk.now in
    let new = g.D.Disk.seen c.make_of.new.disk in
    let before = g.S.Source.seen c.args.source.now in
    let after = g.S.Source.seen c.read_snapshot.new.source in
    let reads = c.in-Ok.ensures in
    subst (λ (fault : StartFault). StartsFrom g.D.Disk.tells c.args.base.now name c.args.limit old new before after (Err fault)) (sym c.of_making.ensures)
    (fed g.D.Disk.tells c.args.base.now name c.args.limit old before after c.requires.shut c.in-Ok.parts reads new (Err c.in-Err-make_of.fault) (c.in-Err-make_of.ensures name is_host reads.taken reads.holds.1))

pub returns-in-Err-make_of-clause-never : goal.returns-in-Err-make_of-clause-never
returns-in-Err-make_of-clause-never g c = λ told is.
    let host = c.requires.host in
    let reads = c.in-Ok.ensures in
    still_shut g.D.Disk.tells c.args.base.now host.0 c.args.limit (g.D.Disk.seen c.args.disk.now) (g.S.Source.seen c.args.source.now) (g.S.Source.seen c.read_snapshot.new.source) c.requires.shut
    c.in-Ok.parts reads (g.D.Disk.seen c.make_of.new.disk) c.in-Err-make_of.fault (c.in-Err-make_of.ensures host.0 host.1 reads.taken reads.holds.1) told
    (subst (λ (fault : StartFault). IsErrOf {T = Unit {0}} (Err fault) Initialised) c.of_making.ensures is)
