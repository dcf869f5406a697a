use Rattle.std.proofs.Common.{true, refl}
use Rattle.std.proofs.lemmas.Result.{err_from_is_err_and}
use Rattle.memory_disk.specs.MemoryLog.{DiskLog, memory_seen}
use Rattle.bridge_core.specs.Opening.{HasOpened}
use Rattle.bridge_core.specs.Reached.{Beginning}
use Rattle.bridge_commands.specs.SelfTest.{BeginsAt, lacking}
use Rattle.bridge_commands.proofs.SummaryLemmas.{starts_by, stopped_so, summed_so}
use Rattle.bridge_commands.proofs.self_test.play_on.Goals as goal

pub returns-in-Err : goal.returns-in-Err
returns-in-Err g c = lacking

pub returns-in_err-course : goal.returns-in_err-course
returns-in_err-course g c =
    let before = memory_seen c.args.disk.now in
    let o : HasOpened true before (memory_seen c.open.new.disk) c.in-Ok.bridge = record {
      opened = c.in-Ok.ensures.answer;
      empty = c.in-Ok.ensures.empty;
      synced = c.in-Ok.ensures.synced;
      writes_nothing = record { unchanged = c.in-Ok.ensures.reads; any_moment = c.in-Ok.ensures.time };
      worked = c.in-Ok.ensures.ends.worked;
      none = c.in-Ok.ensures.ends.none;
      later = c.in-Ok.ensures.ends.later;
    } in
    let start : Beginning DiskLog = record { before = before; opened = c.open.new.disk; bridge = c.in-Ok.bridge } in
    let starts = starts_by c.args.disk.now c.open.new.disk c.in-Ok.bridge c.requires.made o in
    let at : BeginsAt true memory_seen start c.in-Ok.bridge c.open.new.disk = record { opened = o; begins = starts.begins; bridge_is = refl; disk_is = refl } in
    let status = c.in_err-course.field-0.0 in
    let p = err_from_is_err_and c.from_residual.result c.from_residual.ensures.1 in
    rw (p.1, p.2) (stopped_so c.args.trial start status starts (c.in_err-course.ensures start at))

pub returns-in_err-summary : goal.returns-in_err-summary
returns-in_err-summary g c =
    let p = err_from_is_err_and c.from_residual-in_err-summary.result c.from_residual-in_err-summary.ensures.1 in
    rw (p.1, p.2) lacking

pub returns : goal.returns
returns g c =
    let before = memory_seen c.args.disk.now in
    let o : HasOpened true before (memory_seen c.open.new.disk) c.in-Ok.bridge = record {
      opened = c.in-Ok.ensures.answer;
      empty = c.in-Ok.ensures.empty;
      synced = c.in-Ok.ensures.synced;
      writes_nothing = record { unchanged = c.in-Ok.ensures.reads; any_moment = c.in-Ok.ensures.time };
      worked = c.in-Ok.ensures.ends.worked;
      none = c.in-Ok.ensures.ends.none;
      later = c.in-Ok.ensures.ends.later;
    } in
    let start : Beginning DiskLog = record { before = before; opened = c.open.new.disk; bridge = c.in-Ok.bridge } in
    let starts = starts_by c.args.disk.now c.open.new.disk c.in-Ok.bridge c.requires.made o in
    let at : BeginsAt true memory_seen start c.in-Ok.bridge c.open.new.disk = record { opened = o; begins = starts.begins; bridge_is = refl; disk_is = refl } in
    let played = c.in_ok-course.ensures start at in
    summed_so c.args.trial start c.in_ok-course.course c.play_all.new.disk c.in_ok-summary.field-0 starts played (c.in_ok-summary.ensures played.plays.leads.new played.plays.leads.stands.store)
