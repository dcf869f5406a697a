use Rattle.std.proofs.Common.{rules, ℕ, ◌∙◌, ◌≤◌, Ok, Err, sym, ap, subst}
use Rattle.std.specs.Prelude.{IsTrue}
use Rattle.disk_model.specs.DiskSeen.{bytes_in}
use Rattle.gate_journal.proofs.ReadLemmas.{unchanged_then}
use Rattle.gate_journal.specs.Stand.{Stand}
use Rattle.index_commands.specs.Reading.{FollowsArea, FollowsCommands}
use Rattle.index_commands.specs.declared.areas.Followed.{Followed}
use Rattle.index_commands.proofs.ReadingLemmas.{same_bytes, never_fell, failed_since, same_fault}
use Rattle.index_commands.proofs.FollowedLemmas.{followed_to, followed_fault}
use Rattle.index_commands.proofs.areas.follow_commands.Goals as goal

pub returns-in-Ok-follow_area : goal.returns-in-Ok-follow_area
returns-in-Ok-follow_area g c =
    let tells = g.D.Disk.tells in
    let old = g.D.Disk.seen c.args.disk.now in
    let mid = g.D.Disk.seen c.open.new.disk in
    let new = g.D.Disk.seen c.follow_area.new.disk in
    let file = c.args.file in
    let reading = c.in-Ok-follow_area.reading in
    let limit_is = ap (λ (s : Stand). s.limit) c.in-Ok.ensures.ok in
    let same = λ (told : IsTrue tells). sym (same_bytes tells old mid file c.open.ensures.unchanged told) in
    subst (λ (f : Followed). FollowsCommands tells c.args.longest c.args.first file c.args.gate old new (Ok f)) (sym c.end_of.ensures) (record {
      answer = λ front gate_is stands.
          followed_to tells c.args.first c.args.gate (bytes_in old file) (bytes_in mid file) same front gate_is stands c.in-Ok.journal (ap (λ (s : Stand). s.length) c.in-Ok.ensures.ok) c.args.longest reading
          (subst (λ (n : ℕ). FollowsArea tells n c.args.first c.in-Ok.journal (bytes_in mid file) (Ok reading)) limit_is c.in-Ok-follow_area.ensures.follows);
      length = (c.in-Ok-follow_area.ensures.in_area.some, subst (λ (n : ℕ). reading.journal.length ≤ n) limit_is c.in-Ok-follow_area.ensures.in_area.within);
      unchanged = λ told. unchanged_then (c.open.ensures.unchanged told) (c.in-Ok-follow_area.ensures.time told);
      reads = c.in-Ok-follow_area.ensures.reads ∙ c.open.ensures.reads;
      ends = record { later = never_fell c.open.ensures.ends.later c.in-Ok-follow_area.ensures.ends.later; worked = c.in-Ok-follow_area.ensures.ends.worked; none = c.in-Ok-follow_area.ensures.ends.none ∙ c.in-Ok.ensures.ends.none; failed = search rules };
    })

pub returns-in-Err-follow_area : goal.returns-in-Err-follow_area
returns-in-Err-follow_area g c =
    let tells = g.D.Disk.tells in
    let old = g.D.Disk.seen c.args.disk.now in
    let mid = g.D.Disk.seen c.open.new.disk in
    let file = c.args.file in
    let limit_is = ap (λ (s : Stand). s.limit) c.in-Ok.ensures.ok in
    let same = λ (told : IsTrue tells). sym (same_bytes tells old mid file c.open.ensures.unchanged told) in
    record {
      answer = λ front gate_is stands.
          followed_fault tells c.args.first c.args.gate (bytes_in old file) (bytes_in mid file) same front gate_is stands c.in-Ok.journal (ap (λ (s : Stand). s.length) c.in-Ok.ensures.ok) c.args.longest
          c.in-Err-follow_area.fault (subst (λ (n : ℕ). FollowsArea tells n c.args.first c.in-Ok.journal (bytes_in mid file) (Err c.in-Err-follow_area.fault)) limit_is c.in-Err-follow_area.ensures.follows);
      length = tt;
      unchanged = λ told. unchanged_then (c.open.ensures.unchanged told) (c.in-Err-follow_area.ensures.time told);
      reads = c.in-Err-follow_area.ensures.reads ∙ c.open.ensures.reads;
      ends = record {
        later = never_fell c.open.ensures.ends.later c.in-Err-follow_area.ensures.ends.later;
        worked = tt;
        none = tt;
        failed = λ e. failed_since c.open.ensures.ends.later (c.in-Err-follow_area.ensures.ends.failed (same_fault c.in-Err-follow_area.fault e));
      };
    }
