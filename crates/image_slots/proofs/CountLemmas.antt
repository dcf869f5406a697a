-- What is read of the selections.
use Rattle.std.proofs.Common.{◌≡◌, ℕ, suc, ◌+◌, ◌*◌, ◌<◌, ◌≤◌, Bool, true, false, List, [], length, take, Ok, Err, sym, ◌∙◌, ap, subst, arith, length-take}
use Rattle.std.specs.Prelude.{Result, IsTrue}
use Rattle.disk_model.specs.FileState.{FileState, IsSettled}
use Rattle.disk_model.specs.Moments.{Files, Moments, EachMoment}
use Rattle.disk_model.specs.Changes.{Unchanged}
use Rattle.disk_model.specs.Reads.{seen}
use Rattle.disk_model.proofs.MomentLemmas.{last_moment}
use Rattle.gate_journal.specs.Gate.{IsOpen, IsRecordAt}
use Rattle.gate_journal.specs.Stand.{Stand, gate_of}
use Rattle.gate_journal.specs.Answers.{NextAnswer}
use Rattle.gate_journal.specs.declared.faults.JournalFault.{JournalFault}
use Rattle.gate_journal.specs.declared.faults.JournalFault.TheVariants as journal
use Rattle.gate_journal.specs.Records.{HasRecordsTo}
use Rattle.gate_journal.proofs.RecordLemmas.{record_unique}
use Rattle.gate_journal.proofs.GateLemmas.{none_to, next_to, all_to}
use Rattle.image_slots.specs.Selections.{HasSelections, selections, selections_file, selections_limit, next_selection}
use Rattle.image_slots.specs.Slotted.{Slotted, AreOn}
use Rattle.image_slots.specs.Damage.{IsDamaged, selection}
use Rattle.image_slots.specs.Answers.{SelectionAnswer, FaultAnswer}
use Rattle.image_slots.specs.Faults.{of_journal}
use Rattle.image_slots.specs.declared.faults.SlotFault.{SlotFault}
use Rattle.image_slots.specs.declared.faults.SlotFault.TheVariants as faults
use Rattle.image_slots.proofs.SelectionLemmas.{open_at}

-- ---- one of them

-- a fault of the journal
fault_there : (file : List ℕ) (old new : Stand) (into : List ℕ) (count : ℕ) (fault : JournalFault) → NextAnswer file old new into (Err fault)
    → SelectionAnswer file (gate_of old) old.limit count (Err (of_journal fault))
fault_there file old new into count journal.DiskFault answer = tt
fault_there file old new into count journal.NoMemory answer = tt
fault_there file old new into count (journal.Damaged place) answer = (answer.0, answer.1.is_open, answer.1.no_record (next_selection count))

pub fault_told : (seen : ℕ → List ℕ) (old new : Stand) (into : List ℕ) (count : ℕ) (fault : JournalFault) (told : SlotFault) → old.file ≡ selections_file
    → NextAnswer (seen old.file) old new into (Err fault) → told ≡ of_journal fault → SelectionAnswer (seen selections_file) (gate_of old) old.limit count (Err told)
fault_told seen old new into count fault told is answer told_is =
    subst (λ (f : SlotFault). SelectionAnswer (seen selections_file) (gate_of old) old.limit count (Err f)) (sym told_is)
    (fault_there (seen selections_file) old new into count fault (subst (λ (n : ℕ). NextAnswer (seen n) old new into (Err fault)) is answer))

-- a record that is not the next selection
not_next : (file : List ℕ) (gate limit count : ℕ) (record_is : List ℕ) → IsRecordAt file gate limit record_is → ¬ (record_is ≡ next_selection count)
    → IsOpen file gate × ¬ (IsRecordAt file gate limit (next_selection count))
not_next file gate limit count record_is stands differs = (open_at file gate limit record_is stands, λ next. differs (record_unique file record_is (next_selection count) gate limit stands next))

pub another_there : (seen : ℕ → List ℕ) (old new : Stand) (into : List ℕ) (count : ℕ) (more : Bool) → more ≡ true → old.file ≡ selections_file
    → NextAnswer (seen old.file) old new into (Ok more) → ¬ (into ≡ next_selection count)
    → IsOpen (seen selections_file) (gate_of old) × ¬ (IsRecordAt (seen selections_file) (gate_of old) old.limit (next_selection count))
another_there seen old new into count false e is answer differs = absurd cc
another_there seen old new into count true e is answer differs =
    not_next (seen selections_file) (gate_of old) old.limit count into (subst (λ (n : ℕ). IsRecordAt (seen n) (gate_of old) old.limit into) is answer.0) differs

-- ---- all of them

-- So many were read, no more than there may be, and the journal stands at the gate behind them.
pub record HasCounted (tells : Bool) (at most : ℕ) (file : List ℕ) (journal : Stand) (count : ℕ) : Type 0 where
  pub few : count ≤ most
  pub file_is : journal.file ≡ selections_file
  pub length_is : journal.length ≡ at + 6 * count + 1
  pub limit_is : journal.limit ≡ selections_limit at most
  pub read : IsTrue tells → HasRecordsTo (at + 6 * count) (take at file) (selections count) file

pub none_counted : (tells : Bool) (at most : ℕ) (file : List ℕ) (journal : Stand) → journal.file ≡ selections_file → journal.length ≡ at + 1 → journal.limit ≡ selections_limit at most
    → (IsTrue tells → journal.length ≤ length file) → HasCounted tells at most file journal 0
none_counted tells at most file journal file_is length_is limit_is inside = record {
  few = omega arith;
  file_is = file_is;
  length_is = omega (arith, length_is);
  limit_is = limit_is;
  read = λ told.
      let size : length (take at file) ≡ at + 6 * 0 = omega (arith, length-take at file, inside told, length_is) in
      subst (λ (n : ℕ). HasRecordsTo n (take at file) [] file) size
      (none_to (take at file) file (ap (λ (n : ℕ). take n file) (omega (arith, size))) (omega (arith, size, inside told, length_is)));
}

module _ (tells : Bool) (at most : ℕ) (file : List ℕ) (journal : Stand) (count : ℕ) (so_far : HasCounted tells at most file journal count) where
  gate_at : gate_of journal ≡ at + 6 * count
  gate_at = omega (arith, so_far.length_is)

  -- what was read at the journal's gate
  told_at : (result : Result Bool SlotFault) → SelectionAnswer file (gate_of journal) journal.limit count result → SelectionAnswer file (at + 6 * count) (selections_limit at most) count result
  told_at result answer = subst (λ (n : ℕ). SelectionAnswer file (at + 6 * count) n count result) so_far.limit_is (subst (λ (n : ℕ). SelectionAnswer file n journal.limit count result) gate_at answer)

  next_read : (more : Bool) → more ≡ true → IsTrue tells → SelectionAnswer file (at + 6 * count) (selections_limit at most) count (Ok more)
      → HasRecordsTo (at + 6 * (count + 1)) (take at file) (selections (count + 1)) file
  next_read false e told answer = absurd cc
  next_read true e told answer =
      let raised : suc count ≡ count + 1 = omega arith in
      let place : at + 6 * count + 6 ≡ at + 6 * (count + 1) = omega arith in
      subst (λ (n : ℕ). HasRecordsTo (at + 6 * (count + 1)) (take at file) (selections n) file) raised
      (subst (λ (n : ℕ). HasRecordsTo n (take at file) (selections (suc count)) file) place
      (next_to (at + 6 * count) (selections_limit at most) (take at file) (selections count) (next_selection count) file (so_far.read told) answer))

  pub one_counted : (new : Stand) (more : Bool) → more ≡ true → (IsTrue tells → SelectionAnswer file (gate_of journal) journal.limit count (Ok more))
      → (new.file ≡ journal.file) × (new.limit ≡ journal.limit) → (new.length ≡ journal.length + 6) × (new.length ≤ journal.limit) → HasCounted tells at most file new (count + 1)
  one_counted new more e answer same moved = record {
    few = omega (arith, moved.0, moved.1, so_far.length_is, so_far.limit_is);
    file_is = same.0 ∙ so_far.file_is;
    length_is = omega (arith, moved.0, so_far.length_is);
    limit_is = same.1 ∙ so_far.limit_is;
    read = λ told. next_read more e told (told_at (Ok more) (answer told));
  }

  all_read : (more : Bool) → more ≡ false → IsTrue tells → SelectionAnswer file (at + 6 * count) (selections_limit at most) count (Ok more) → HasSelections (take at file) count file
  all_read true e told answer = absurd cc
  all_read false e told answer = all_to (at + 6 * count) (take at file) (selections count) file (so_far.read told) answer

  pub all_counted : (more : Bool) → more ≡ false → IsTrue tells → SelectionAnswer file (gate_of journal) journal.limit count (Ok more) → HasSelections (take at file) count file
  all_counted more e told answer = all_read more e told (told_at (Ok more) answer)

  fault_read : (fault : SlotFault) → IsTrue tells → SelectionAnswer file (at + 6 * count) (selections_limit at most) count (Err fault) → FaultAnswer at most file fault
  fault_read faults.DiskFault told answer = tt
  fault_read faults.NoMemory told answer = tt
  fault_read (faults.Damaged place) told answer =
      subst (IsDamaged at most file) (sym answer.0) (selection (record { count = count; few = so_far.few; read = so_far.read told; is_open = answer.1; no_next = answer.2 }))

  pub fault_counted : (fault : SlotFault) → IsTrue tells → SelectionAnswer file (gate_of journal) journal.limit count (Err fault) → FaultAnswer at most file fault
  fault_counted fault told answer = fault_read fault told (told_at (Err fault) answer)

-- reads give the same bytes while no file changes
pub same_bytes : {old new : Moments} (file : ℕ) → EachMoment (Unchanged old.now) old new → seen new file ≡ seen old file
same_bytes file each = ap (λ (files : Files). (files file).bytes) (last_moment each)

-- ---- slots of them

pub file_same : {old new : Moments} (file : ℕ) → EachMoment (Unchanged old.now) old new → new.now file ≡ old.now file
file_same file each = ap (λ (files : Files). files file) (last_moment each)

pub are_on : (at : ℕ) (slots : Slotted) (old new : FileState) → slots.at ≡ at → new ≡ old → IsSettled old → at < length old.bytes → HasSelections (take at old.bytes) slots.count old.bytes
    → AreOn (take at old.bytes) slots new
are_on at slots old new at_is same settled inside has = subst (AreOn (take at old.bytes) slots) (sym same) (record {
  settled = settled;
  at_is = omega (arith, at_is, inside, length-take at old.bytes);
  has = has;
})
