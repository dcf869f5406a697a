use Rattle.std.proofs.Common.{rules, List, ℕ, take, sym, ap, subst}
use Rattle.std.specs.Prelude.{IsTrue}
use Rattle.disk_model.specs.DiskSeen.{bytes_in, file_in}
use Rattle.gate_journal.proofs.ReadLemmas.{unchanged_then}
use Rattle.image_slots.specs.Selections.{HasSelections, selections_file}
use Rattle.image_slots.specs.Slotted.{Slotted}
use Rattle.image_slots.specs.Answers.{FaultAnswer}
use Rattle.image_slots.proofs.CountLemmas.{same_bytes, file_same, are_on}
use Rattle.image_slots.proofs.slots.Slots.open.Goals as goal

pub returns-in-Ok : goal.returns-in-Ok
returns-in-Ok g c =
    let old = g.D.Disk.seen c.args.disk.now in
    let new = g.D.Disk.seen c.count_selections.new.disk in
    let file = bytes_in old selections_file in
    let has : (tells : IsTrue g.D.Disk.tells) → HasSelections (take c.args.at file) c.at.result.count file = λ tells.
    subst (λ (n : ℕ). HasSelections (take c.args.at file) n file) (sym (ap (λ (s : Slotted). s.count) c.at.ensures))
    (subst (λ (l : List ℕ). HasSelections (take c.args.at l) c.in-Ok.count l) (same_bytes selections_file (c.open.ensures.unchanged tells)) (c.in-Ok.ensures.answer tells)) in
    record {
      ok = search rules;
      answer = has;
      on_disk = λ tells.
          are_on c.args.at c.at.result (file_in old selections_file) (file_in new selections_file) (ap (λ (s : Slotted). s.at) c.at.ensures)
          (file_same selections_file (unchanged_then (c.open.ensures.unchanged tells) (c.in-Ok.ensures.unchanged tells))) (c.requires.settled tells) (c.in_ok-journal.ensures.answer tells) (has tells);
      unchanged = λ tells. unchanged_then (c.open.ensures.unchanged tells) (c.in-Ok.ensures.unchanged tells);
      ends = search rules;
      reads = search rules;
    }

pub returns : goal.returns
returns g c = record {
  ok = tt;
  answer = λ tells.
      subst (λ (l : List ℕ). FaultAnswer c.args.at c.args.limits.selections l c.in-Err.fault) (same_bytes selections_file (c.open.ensures.unchanged tells)) (c.in-Err.ensures.answer tells);
  on_disk = λ tells. tt;
  unchanged = λ tells. unchanged_then (c.open.ensures.unchanged tells) (c.in-Err.ensures.unchanged tells);
  ends = search rules;
  reads = search rules;
}
