use Rattle.std.proofs.Common.{Err, refl, sym, ap, subst}
use Rattle.disk_model.specs.DiskSeen.{bytes_in}
use Rattle.frame_loop.specs.Transcript.{streams}
use Rattle.name_store.proofs.FollowLaws.{opens_for}
use Rattle.bridge_core.specs.Opening.{HasOpened}
use Rattle.bridge_core.specs.Determined.{outside}
use Rattle.bridge_core.specs.Reached.{Beginning}
use Rattle.bridge_core.specs.Replaying.{Replays}
use Rattle.bridge_core.specs.declared.status.Status.{Status}
use Rattle.bridge_core.proofs.OpeningLemmas.{first_reached}
use Rattle.bridge_core.proofs.DeterminedLemmas.{bridge_answers, streams_loop, streams_unbegun}
use Rattle.bridge_core.proofs.replaying.replay_by.Goals as goal

pub returns-in-Ok : goal.returns-in-Ok
returns-in-Ok g c =
    let tells = g.D.Disk.tells in
    let seen = g.D.Disk.seen in
    let before = seen c.args.disk.now in
    let opened = seen c.open.new.disk in
    let o : HasOpened tells before opened c.in-Ok.bridge = record {
      opened = c.in-Ok.ensures.answer;
      empty = c.in-Ok.ensures.empty;
      synced = c.in-Ok.ensures.synced;
      writes_nothing = record { unchanged = c.in-Ok.ensures.reads; any_moment = c.in-Ok.ensures.time };
      worked = c.in-Ok.ensures.ends.worked;
      none = c.in-Ok.ensures.ends.none;
      later = c.in-Ok.ensures.ends.later;
    } in
    let begun : Beginning g.row.D.Denot = record { before = before; opened = c.open.new.disk; bridge = c.in-Ok.bridge } in
    let old = outside (streams (g.S.Source.seen c.args.source.now) (g.K.Sink.seen c.args.sink.now)) before in
    let new = outside (streams (g.S.Source.seen c.follow-ending.new.source) (g.K.Sink.seen c.follow-ending.new.sink)) (seen c.follow-ending.new.world) in
    subst (λ (s : Status). Replays tells seen c.follow-ending.new.world old new c.args.limit s) (sym c.status_of.ensures)
    (streams_loop (bridge_answers tells seen) (record { tells = tells; disk = c.follow-ending.new.world; old = old; new = new; limit = c.args.limit }) (record {
      begun = begun;
      begun_is = refl;
      opened = o;
      how = c.follow-ending.result;
      last = c.follow-ending.new.answerer;
      transcript = c.follow-ending.ensures.transcript begun (first_reached tells seen begun o);
      source_later = c.follow-ending.ensures.source_later;
      sink_later = c.follow-ending.ensures.sink_later;
      now = refl;
    }))

pub returns-in-Err : goal.returns-in-Err
returns-in-Err g c =
    let tells = g.D.Disk.tells in
    let seen = g.D.Disk.seen in
    let around = streams (g.S.Source.seen c.args.source.now) (g.K.Sink.seen c.args.sink.now) in
    let old = outside around (seen c.args.disk.now) in
    let new = outside around (seen c.open.new.disk) in
    subst (λ (s : Status). Replays tells seen c.open.new.disk old new c.args.limit s) (sym c.unopened.ensures)
    (streams_unbegun (bridge_answers tells seen) (record { tells = tells; disk = c.open.new.disk; old = old; new = new; limit = c.args.limit }) c.in-Err.fault refl (record {
      writes_nothing = record { unchanged = c.in-Err.ensures.reads; any_moment = c.in-Err.ensures.time };
      answer = c.in-Err.ensures.answer;
      follows = λ told run stands. opens_for (bytes_in (seen c.args.disk.now)) (seen c.open.new.disk).moments.now (Err c.in-Err.fault) (c.in-Err.ensures.answer told) run stands;
      never_fell = c.in-Err.ensures.ends.later;
      cause = λ e. c.in-Err.ensures.ends.failed (ap Err e);
    }))
