use Rattle.std.proofs.Common.{[], Err, Option, refl, sym, ap, subst}
use Rattle.disk_model.specs.DiskSeen.{bytes_in}
use Rattle.frame_loop.specs.Transcript.{streams}
use Rattle.name_store.proofs.FollowLaws.{opens_for}
use Rattle.bridge_core.specs.Opening.{HasOpened}
use Rattle.bridge_core.specs.Determined.{outside}
use Rattle.bridge_core.specs.declared.status.Status.{Status}
use Rattle.bridge_core.proofs.DeterminedLemmas.{streams_loop, streams_unbegun}
use Rattle.name_lister.specs.Listing.{Lists}
use Rattle.name_lister.specs.Reached.{Ready, Reached, with_pages}
use Rattle.name_lister.specs.Saving.{IsSavingOn}
use Rattle.name_lister.specs.declared.lister.ListTurned.{ListTurned}
use Rattle.name_lister.specs.declared.saving.Saving.{Saving}
use Rattle.name_lister.proofs.ListLemmas.{lister_answers, begun_at, first_list_reached}
use Rattle.name_lister.proofs.listing.list_by.Goals as goal

pub follow-ending-requires-clause-ready : goal.follow-ending-requires-clause-ready
follow-ending-requires-clause-ready g c =
    subst (λ (turned : ListTurned). Ready g.D.Disk.tells g.D.Disk.seen (turned, c.open.new.disk)) (sym c.new-running.ensures) (λ told. record {
      store = (c.in-Ok.ensures.answer told).on_disk;
      saving = subst (λ (saving : Option Saving). IsSavingOn c.in-Ok.lister.bridge.store saving (g.D.Disk.seen c.open.new.disk).moments.now) (sym c.in-Ok.ensures.idle) tt;
    })

pub returns-in-Ok : goal.returns-in-Ok
returns-in-Ok g c =
    let tells = g.D.Disk.tells in
    let seen = g.D.Disk.seen in
    let before = seen c.args.disk.now in
    let size = c.args.page in
    let lister = c.in-Ok.lister in
    let o : HasOpened tells before (seen c.open.new.disk) lister.bridge = record {
      opened = c.in-Ok.ensures.answer;
      empty = c.in-Ok.ensures.empty;
      synced = c.in-Ok.ensures.synced;
      writes_nothing = record { unchanged = c.in-Ok.ensures.reads; any_moment = c.in-Ok.ensures.time };
      worked = c.in-Ok.ensures.ends.worked;
      none = c.in-Ok.ensures.ends.none;
      later = c.in-Ok.ensures.ends.later;
    } in
    let old = outside (streams (g.S.Source.seen c.args.source.now) (g.K.Sink.seen c.args.sink.now)) before in
    let new = outside (streams (g.S.Source.seen c.follow-ending.new.source) (g.K.Sink.seen c.follow-ending.new.sink)) (seen c.follow-ending.new.world) in
    subst (λ (s : Status). Lists size tells seen c.follow-ending.new.world old new c.args.limit s) (sym c.status_of.ensures)
    (streams_loop (lister_answers size tells seen) (record { tells = tells; disk = c.follow-ending.new.world; old = old; new = new; limit = c.args.limit }) (record {
      begun = begun_at tells seen size before c.open.new.disk lister;
      begun_is = refl;
      opened = o;
      how = c.follow-ending.result;
      last = c.follow-ending.new.answerer;
      transcript = c.follow-ending.ensures.transcript (with_pages size (begun_at tells seen size before c.open.new.disk lister))
          (subst (λ (turned : ListTurned). Reached tells seen (with_pages size (begun_at tells seen size before c.open.new.disk lister)) [] [] (turned, c.open.new.disk)) (sym c.new-running.ensures)
          (first_list_reached tells seen size before c.open.new.disk lister o c.in-Ok.ensures.page c.in-Ok.ensures.begins));
      source_later = c.follow-ending.ensures.source_later;
      sink_later = c.follow-ending.ensures.sink_later;
      now = refl;
    }))

pub returns-in-Err : goal.returns-in-Err
returns-in-Err g c =
    let tells = g.D.Disk.tells in
    let seen = g.D.Disk.seen in
    let size = c.args.page in
    let around = streams (g.S.Source.seen c.args.source.now) (g.K.Sink.seen c.args.sink.now) in
    let old = outside around (seen c.args.disk.now) in
    let new = outside around (seen c.open.new.disk) in
    subst (λ (s : Status). Lists size tells seen c.open.new.disk old new c.args.limit s) (sym c.unopened.ensures)
    (streams_unbegun (lister_answers size tells seen) (record { tells = tells; disk = c.open.new.disk; old = old; new = new; limit = c.args.limit }) c.in-Err.fault refl (record {
      writes_nothing = record { unchanged = c.in-Err.ensures.reads; any_moment = c.in-Err.ensures.time };
      answer = c.in-Err.ensures.answer;
      follows = λ told run stands. opens_for (bytes_in (seen c.args.disk.now)) (seen c.open.new.disk).moments.now (Err c.in-Err.fault) (c.in-Err.ensures.answer told) run stands;
      never_fell = c.in-Err.ensures.ends.later;
      cause = λ e. c.in-Err.ensures.ends.failed (ap Err e);
    }))
