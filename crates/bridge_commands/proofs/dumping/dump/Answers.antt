use Rattle.std.proofs.Common.{Err, refl, sym, ap, subst}
use Rattle.disk_model.specs.DiskSeen.{bytes_in}
use Rattle.name_store.proofs.FollowLaws.{opens_for}
use Rattle.bridge_core.specs.Opening.{HasOpened}
use Rattle.bridge_core.specs.declared.status.Status.{Status}
use Rattle.bridge_commands.specs.Dumping.{Dumps, dump_seen}
use Rattle.bridge_commands.proofs.DumpingLemmas.{dumps_report, dumps_unbegun}
use Rattle.bridge_commands.proofs.dumping.dump.Goals as goal

pub returns-in-Ok : goal.returns-in-Ok
returns-in-Ok g c =
    let tells = g.D.Disk.tells in
    let before = g.D.Disk.seen c.args.disk.now in
    let opened = g.D.Disk.seen c.open.new.disk in
    let o : HasOpened tells before opened c.in-Ok.bridge = record {
      opened = c.in-Ok.ensures.answer;
      empty = c.in-Ok.ensures.empty;
      synced = c.in-Ok.ensures.synced;
      writes_nothing = record { unchanged = c.in-Ok.ensures.reads; any_moment = c.in-Ok.ensures.time };
      worked = c.in-Ok.ensures.ends.worked;
      none = c.in-Ok.ensures.ends.none;
      later = c.in-Ok.ensures.ends.later;
    } in
    let old = dump_seen (g.K.Sink.seen c.args.sink.now) before in
    let new = dump_seen (g.K.Sink.seen c.report-written.new.sink) opened in
    subst (λ (s : Status). Dumps tells old new s) (sym c.status_of.ensures)
    (dumps_report tells old new c.report-written.result (record { bridge = c.in-Ok.bridge; opened = o; report = c.report-written.ensures.index; of_runs = c.report-written.ensures.runs }))

pub returns-in-Err : goal.returns-in-Err
returns-in-Err g c =
    let tells = g.D.Disk.tells in
    let seen = g.D.Disk.seen in
    let sink = g.K.Sink.seen c.args.sink.now in
    let old = dump_seen sink (seen c.args.disk.now) in
    let new = dump_seen sink (seen c.open.new.disk) in
    subst (λ (s : Status). Dumps tells old new s) (sym c.unopened.ensures)
    (dumps_unbegun tells old new c.in-Err.fault refl (record {
      writes_nothing = record { unchanged = c.in-Err.ensures.reads; any_moment = c.in-Err.ensures.time };
      answer = c.in-Err.ensures.answer;
      follows = λ told run stands. opens_for (bytes_in (seen c.args.disk.now)) (seen c.open.new.disk).moments.now (Err c.in-Err.fault) (c.in-Err.ensures.answer told) run stands;
      never_fell = c.in-Err.ensures.ends.later;
      cause = λ e. c.in-Err.ensures.ends.failed (ap Err e);
    }))
