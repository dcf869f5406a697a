use Rattle.std.proofs.Common.{Err, refl, sym, ap, subst}
use Rattle.disk_model.specs.DiskSeen.{bytes_in}
use Rattle.name_store.proofs.FollowLaws.{opens_for}
use Rattle.bridge_core.specs.Opening.{HasOpened}
use Rattle.bridge_core.specs.Reached.{Beginning}
use Rattle.bridge_core.specs.declared.status.Status.{Status}
use Rattle.bridge_core.proofs.OpeningLemmas.{first_reached}
use Rattle.bridge_commands.specs.Serving.{Serves, serve_seen}
use Rattle.bridge_commands.proofs.ServingLemmas.{serves_polls, serves_unbound, serves_unbegun}
use Rattle.bridge_commands.proofs.serving.serve_by.Goals as goal

pub returns-in-Err : goal.returns-in-Err
returns-in-Err g c =
    let tells = g.D.Disk.tells in
    let seen = g.D.Disk.seen in
    let port = g.P.Port.seen c.args.port.now in
    let old = serve_seen port (seen c.args.disk.now) in
    let new = serve_seen port (seen c.open.new.disk) in
    subst (λ (s : Status). Serves tells seen c.open.new.disk old new c.args.plan s) (sym c.unopened.ensures)
    (serves_unbegun (record { tells = tells; seen = seen; disk = c.open.new.disk; old = old; new = new; plan = c.args.plan }) c.in-Err.fault refl (record {
      writes_nothing = record { unchanged = c.in-Err.ensures.reads; any_moment = c.in-Err.ensures.time };
      answer = c.in-Err.ensures.answer;
      follows = λ told run stands. opens_for (bytes_in (seen c.args.disk.now)) (seen c.open.new.disk).moments.now (Err c.in-Err.fault) (c.in-Err.ensures.answer told) run stands;
      never_fell = c.in-Err.ensures.ends.later;
      cause = λ e. c.in-Err.ensures.ends.failed (ap Err e);
    }))

pub returns-in-Ok-bind : goal.returns-in-Ok-bind
returns-in-Ok-bind g c =
    let tells = g.D.Disk.tells in
    let seen = g.D.Disk.seen in
    let before = seen c.args.disk.now in
    let opened = seen c.open.new.disk in
    let o : HasOpened tells before opened c.in-Ok.bridge = record {
      opened = c.in-Ok.ensures.answer;
      empty = c.in-Ok.ensures.empty;
      synced = c.in-Ok.ensures.synced;
      writes_nothing = record { unchanged = c.in-Ok.ensures.reads; any_moment = c.in-Ok.ensures.time };
      worked = c.in-Ok.ensures.ends.worked;
      none = c.in-Ok.ensures.ends.none;
      later = c.in-Ok.ensures.ends.later;
    } in
    let begun : Beginning g.row.D.Denot = record { before = before; opened = c.open.new.disk; bridge = c.in-Ok.bridge } in
    let old = serve_seen (g.P.Port.seen c.args.port.now) before in
    let new = serve_seen (g.P.Port.seen c.attend-ending.new.port) (seen c.attend-ending.new.world) in
    subst (λ (s : Status). Serves tells seen c.attend-ending.new.world old new c.args.plan s) (sym c.status_of.ensures)
    (serves_polls (record { tells = tells; seen = seen; disk = c.attend-ending.new.world; old = old; new = new; plan = c.args.plan }) (record {
      begun = begun;
      begun_is = refl;
      opened = o;
      mid = g.P.Port.seen c.bind.new.self;
      binds = c.in-Ok-bind.ensures;
      reached = first_reached tells seen begun o;
      how = c.attend-ending.result;
      last = c.attend-ending.new.answerer;
      attends = c.attend-ending.ensures;
      now = refl;
    }))

pub returns-in-Err-bind : goal.returns-in-Err-bind
returns-in-Err-bind g c =
    let tells = g.D.Disk.tells in
    let seen = g.D.Disk.seen in
    let before = seen c.args.disk.now in
    let opened = seen c.open.new.disk in
    let o : HasOpened tells before opened c.in-Ok.bridge = record {
      opened = c.in-Ok.ensures.answer;
      empty = c.in-Ok.ensures.empty;
      synced = c.in-Ok.ensures.synced;
      writes_nothing = record { unchanged = c.in-Ok.ensures.reads; any_moment = c.in-Ok.ensures.time };
      worked = c.in-Ok.ensures.ends.worked;
      none = c.in-Ok.ensures.ends.none;
      later = c.in-Ok.ensures.ends.later;
    } in
    let old = serve_seen (g.P.Port.seen c.args.port.now) before in
    let new = serve_seen (g.P.Port.seen c.bind.new.self) opened in
    serves_unbound (record { tells = tells; seen = seen; disk = c.open.new.disk; old = old; new = new; plan = c.args.plan }) c.in-Err-bind.ensures c.in-Ok.bridge o
