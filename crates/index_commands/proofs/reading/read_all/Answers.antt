use Rattle.std.proofs.Common.{ℕ, Ok, Err, refl, sym, ◌∙◌, subst, arith, rules}
use Rattle.std.specs.Prelude.{IsTrue}
use Rattle.disk_model.specs.Moments.{start}
use Rattle.disk_model.specs.DiskSeen.{bytes_in, file_in}
use Rattle.gate_journal.specs.Stand.{IsReadable}
use Rattle.gate_journal.proofs.ReadLemmas.{unchanged_then}
use Rattle.index_commands.specs.declared.reading.Stepped.{Stepped}
use Rattle.index_commands.specs.declared.reading.Stepped.TheVariants.{More, All}
use Rattle.index_commands.specs.Reading.{StepsOn, MovesOn, reading_of}
use Rattle.index_commands.proofs.ReadingLemmas.{followed_same, followed_all_same, fault_same, own_area, same_bytes, never_fell, failed_since, same_fault}
use Rattle.index_commands.proofs.reading.read_all.Goals as goal

pub step-requires-clause-area : goal.step-requires-clause-area
step-requires-clause-area g c = own_area c.args.reading.journal.limit c.args.file c.records.reading.journal c.records.invariant.area

pub records-init : goal.records-init
records-init g c = record {
  followed = λ first some. some;
  area = c.requires.area;
  readable = c.requires.readable;
  time = λ told. start refl;
  reads = refl;
  later = record { count = omega arith; at_limit = λ h. h };
  none = refl;
}

pub records-preserved : goal.records-preserved
records-preserved g c =
    let tells = g.D.Disk.tells in
    let old = g.D.Disk.seen c.args.disk.now in
    let mid = g.D.Disk.seen c.records.disk in
    let new = g.D.Disk.seen c.step.new.disk in
    let file = c.args.file in
    let same = same_bytes tells old mid file c.records.invariant.time in
    let limit_is = c.records.invariant.area.limit_is in
    let on = subst (λ (n : ℕ). StepsOn tells n c.records.reading (bytes_in mid file) (Ok (More c.in-Ok-More.next))) limit_is (subst (λ (s : Stepped). StepsOn tells c.records.reading.journal.limit c.records.reading (bytes_in mid file) (Ok s)) c.in-Ok-More.field-0-is c.in-Ok-More.ensures.steps_on) in
    let moves = subst (λ (n : ℕ). MovesOn n c.args.file c.records.reading.journal (More c.in-Ok-More.next)) c.records.invariant.area.limit_is (subst (λ (s : Stepped). MovesOn c.records.reading.journal.limit c.args.file c.records.reading.journal s) c.in-Ok-More.field-0-is c.in-Ok-More.ensures.moves) in
    record {
      followed = λ first some.
          followed_same tells c.args.reading.journal.limit first (bytes_in mid file) (bytes_in old file) (λ told. sym (same told)) c.in-Ok-More.next.chain c.in-Ok-More.next.journal.length
          (on first (followed_same tells c.args.reading.journal.limit first (bytes_in old file) (bytes_in mid file) same c.records.reading.chain c.records.reading.journal.length (c.records.invariant.followed first some)));
      area = moves.0;
      readable = subst (λ (s : Stepped). IsTrue tells → IsReadable (reading_of s).journal (file_in new file)) c.in-Ok-More.field-0-is c.in-Ok-More.ensures.readable;
      time = λ told. unchanged_then (c.records.invariant.time told) (c.in-Ok-More.ensures.time told);
      reads = c.in-Ok-More.ensures.reads ∙ c.records.invariant.reads;
      later = never_fell c.records.invariant.later c.in-Ok-More.ensures.ends.later;
      none = c.in-Ok-More.ensures.ends.none ∙ c.records.invariant.none;
    }

pub records-smaller : goal.records-smaller
records-smaller g c =
    let moves = subst (λ (n : ℕ). MovesOn n c.args.file c.records.reading.journal (More c.in-Ok-More.next)) c.records.invariant.area.limit_is (subst (λ (s : Stepped). MovesOn c.records.reading.journal.limit c.args.file c.records.reading.journal s) c.in-Ok-More.field-0-is c.in-Ok-More.ensures.moves) in
    omega (arith, moves.1, moves.0.within)

pub returns-in-Ok-All : goal.returns-in-Ok-All
returns-in-Ok-All g c =
    let tells = g.D.Disk.tells in
    let old = g.D.Disk.seen c.args.disk.now in
    let mid = g.D.Disk.seen c.records.disk in
    let file = c.args.file in
    let same = same_bytes tells old mid file c.records.invariant.time in
    let limit_is = c.records.invariant.area.limit_is in
    let on = subst (λ (n : ℕ). StepsOn tells n c.records.reading (bytes_in mid file) (Ok (All c.in-Ok-All.all))) limit_is (subst (λ (s : Stepped). StepsOn tells c.records.reading.journal.limit c.records.reading (bytes_in mid file) (Ok s)) c.in-Ok-All.field-0-is c.in-Ok-All.ensures.steps_on) in
    let moves = subst (λ (n : ℕ). MovesOn n c.args.file c.records.reading.journal (All c.in-Ok-All.all)) c.records.invariant.area.limit_is (subst (λ (s : Stepped). MovesOn c.records.reading.journal.limit c.args.file c.records.reading.journal s) c.in-Ok-All.field-0-is c.in-Ok-All.ensures.moves) in
    record {
      follows = λ first some.
          followed_all_same tells c.args.reading.journal.limit first (bytes_in mid file) (bytes_in old file) (λ told. sym (same told)) c.in-Ok-All.all.chain c.in-Ok-All.all.journal.length
          (on first (followed_same tells c.args.reading.journal.limit first (bytes_in old file) (bytes_in mid file) same c.records.reading.chain c.records.reading.journal.length (c.records.invariant.followed first some)));
      in_area = moves.0;
      time = λ told. unchanged_then (c.records.invariant.time told) (c.in-Ok-All.ensures.time told);
      reads = c.in-Ok-All.ensures.reads ∙ c.records.invariant.reads;
      ends = record { later = never_fell c.records.invariant.later c.in-Ok-All.ensures.ends.later; worked = c.in-Ok-All.ensures.ends.worked; none = c.in-Ok-All.ensures.ends.none ∙ c.records.invariant.none; failed = search rules };
    }

pub returns-in-Err : goal.returns-in-Err
returns-in-Err g c =
    let tells = g.D.Disk.tells in
    let old = g.D.Disk.seen c.args.disk.now in
    let mid = g.D.Disk.seen c.records.disk in
    let file = c.args.file in
    let same = same_bytes tells old mid file c.records.invariant.time in
    record {
      follows = λ first some.
          fault_same tells c.args.reading.journal.limit first (bytes_in mid file) (bytes_in old file) (λ told. sym (same told)) c.in-Err.fault
          (subst (λ (n : ℕ). StepsOn tells n c.records.reading (bytes_in mid file) (Err c.in-Err.fault)) c.records.invariant.area.limit_is c.in-Err.ensures.steps_on first (followed_same tells c.args.reading.journal.limit first (bytes_in old file) (bytes_in mid file) same c.records.reading.chain c.records.reading.journal.length (c.records.invariant.followed first some)));
      in_area = tt;
      time = λ told. unchanged_then (c.records.invariant.time told) (c.in-Err.ensures.time told);
      reads = c.in-Err.ensures.reads ∙ c.records.invariant.reads;
      ends = record {
        later = never_fell c.records.invariant.later c.in-Err.ensures.ends.later;
        worked = tt;
        none = tt;
        failed = λ e. failed_since c.records.invariant.later (c.in-Err.ensures.ends.failed (same_fault c.in-Err.fault e));
      };
    }
