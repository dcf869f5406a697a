use Rattle.std.proofs.Common.{rules, ◌-◌, List, ℕ, Ok, Err, refl, ◌∙◌, subst}
use Rattle.std.specs.Prelude.{IsTrue}
use Rattle.disk_model.specs.Moments.{start}
use Rattle.disk_model.specs.DiskSeen.{bytes_in}
use Rattle.gate_journal.proofs.ReadLemmas.{unchanged_then}
use Rattle.image_slots.specs.Selections.{selections_file}
use Rattle.image_slots.specs.Answers.{SelectionAnswer}
use Rattle.image_slots.proofs.CountLemmas.{none_counted, one_counted, all_counted, fault_counted, same_bytes}
use Rattle.image_slots.proofs.reading.count_selections.Goals as goal

pub selections-init : goal.selections-init
selections-init g c =
    let file = bytes_in (g.D.Disk.seen c.args.disk.now) selections_file in
    record {
      counted = none_counted g.D.Disk.tells c.args.at c.args.most file c.args.journal.now c.requires.file c.requires.gate c.requires.limit (λ tells. (c.requires.readable tells).inside);
      readable = c.requires.readable;
      time = λ tells. start refl;
      reads = refl;
      later = search rules;
      none = refl;
    }

pub selections-preserved : goal.selections-preserved
selections-preserved g c =
    let file = bytes_in (g.D.Disk.seen c.args.disk.now) selections_file in
    let journal = c.selections.journal in
    let answer = λ (tells : IsTrue g.D.Disk.tells).
    subst (λ (l : List ℕ). SelectionAnswer l (journal.length - 1) journal.limit c.selections.count (Ok c.in-Ok.more)) (same_bytes selections_file (c.selections.invariant.time tells))
    (c.in-Ok.ensures.answer tells) in
    record {
      counted = one_counted g.D.Disk.tells c.args.at c.args.most file journal c.selections.count c.selections.invariant.counted c.read_next.new.journal c.in-Ok.more c.if-not-more.false answer
          c.in-Ok.ensures.same (c.in-Ok.ensures.moved c.if-not-more.false);
      readable = c.in-Ok.ensures.readable;
      time = λ tells. unchanged_then (c.selections.invariant.time tells) (c.in-Ok.ensures.unchanged tells);
      reads = c.in-Ok.ensures.reads ∙ c.selections.invariant.reads;
      later = search rules;
      none = c.in-Ok.ensures.ends.none ∙ c.selections.invariant.none;
    }

pub returns-then-not-more : goal.returns-then-not-more
returns-then-not-more g c =
    let file = bytes_in (g.D.Disk.seen c.args.disk.now) selections_file in
    let journal = c.selections.journal in
    record {
      answer = λ tells.
          all_counted g.D.Disk.tells c.args.at c.args.most file journal c.selections.count c.selections.invariant.counted c.in-Ok.more c.if-not-more.true tells
          (subst (λ (l : List ℕ). SelectionAnswer l (journal.length - 1) journal.limit c.selections.count (Ok c.in-Ok.more)) (same_bytes selections_file (c.selections.invariant.time tells)) (c.in-Ok.ensures.answer tells));
      few = c.selections.invariant.counted.few;
      unchanged = λ tells. unchanged_then (c.selections.invariant.time tells) (c.in-Ok.ensures.unchanged tells);
      ends = search rules;
      reads = c.in-Ok.ensures.reads ∙ c.selections.invariant.reads;
    }

pub returns-in-Err : goal.returns-in-Err
returns-in-Err g c =
    let file = bytes_in (g.D.Disk.seen c.args.disk.now) selections_file in
    let journal = c.selections.journal in
    record {
      answer = λ tells.
          fault_counted g.D.Disk.tells c.args.at c.args.most file journal c.selections.count c.selections.invariant.counted c.in-Err.fault tells
          (subst (λ (l : List ℕ). SelectionAnswer l (journal.length - 1) journal.limit c.selections.count (Err c.in-Err.fault)) (same_bytes selections_file (c.selections.invariant.time tells)) (c.in-Err.ensures.answer tells));
      few = tt;
      unchanged = λ tells. unchanged_then (c.selections.invariant.time tells) (c.in-Err.ensures.unchanged tells);
      ends = search rules;
      reads = c.in-Err.ensures.reads ∙ c.selections.invariant.reads;
    }
