use Rattle.std.proofs.Common.{refl, sym, subst}
use Rattle.fault_counts.proofs.FaultLemmas.{NeverFell_refl}
use Rattle.bridge_commands.specs.Starting.{StartsFrom, unread, stays}
use Rattle.bridge_commands.specs.declared.start_fault.StartFault.TheVariants.{DiskFault}
use Rattle.bridge_commands.proofs.StartLemmas.{the_error, only_looked, looked_from, behind}
use Rattle.bridge_commands.proofs.starting.make_from.Goals as goal

pub returns-in_err-is_initialised-clause-starts : goal.returns-in_err-is_initialised-clause-starts
returns-in_err-is_initialised-clause-starts g c = λ name is_host.
    let look = c.is_initialised.ensures in
    let old = g.D.Disk.seen c.args.disk.now in
    let new = g.D.Disk.seen c.is_initialised.new.disk in
    let source = g.S.Source.seen c.args.source.now in
    subst (StartsFrom g.D.Disk.tells c.args.base.now name c.args.limit old new source source) (sym (the_error c.from_residual.result DiskFault c.from_residual.ensures)) (record {
      ending = unread c.in_err-is_initialised.ensures.ends.failed (only_looked g.D.Disk.tells old new look.unchanged look.reads look.ends.later) refl;
      others = looked_from g.D.Disk.tells old new look.unchanged look.reads look.ends.later;
      disk_later = look.ends.later;
      source_later = NeverFell_refl source.faults;
    })

pub returns-then-branch-clause-starts : goal.returns-then-branch-clause-starts
returns-then-branch-clause-starts g c = λ name is_host.
    let look = c.is_initialised.ensures in
    let old = g.D.Disk.seen c.args.disk.now in
    let new = g.D.Disk.seen c.is_initialised.new.disk in
    record {
      ending = stays (λ told. (c.in_ok-is_initialised.ensures.found told).0 c.if-branch.true) (only_looked g.D.Disk.tells old new look.unchanged look.reads look.ends.later);
      others = looked_from g.D.Disk.tells old new look.unchanged look.reads look.ends.later;
      disk_later = look.ends.later;
      source_later = NeverFell_refl (g.S.Source.seen c.args.source.now).faults;
    }

pub returns-clause-starts : goal.returns-clause-starts
returns-clause-starts g c = λ name is_host.
    let look = c.is_initialised.ensures in
    behind g.D.Disk.tells (g.D.Disk.seen c.args.disk.now) (g.D.Disk.seen c.is_initialised.new.disk) look.unchanged look.reads look.ends.later (g.D.Disk.seen c.start_files.new.disk)
    c.args.base.now name c.args.limit (g.S.Source.seen c.args.source.now) (g.S.Source.seen c.start_files.new.source) c.start_files.result (c.start_files.ensures.starts name is_host)
