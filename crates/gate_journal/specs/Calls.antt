-- What each call of a journal does, to the journal and to the disk.
use Rattle.std.specs.Prelude.{◌≡◌, ℕ, ◌+◌, ◌<◌, ◌≤◌, Bool, true, false, IsTrue, IsFalse, List, [], ◌∷◌, ◌++◌, length, take, Result, OnOk, OnErr, IfOk, IsErrOf}
use Rattle.disk_model.specs.FileState.{IsFileImage, IsSettled, put}
use Rattle.disk_model.specs.Moments.{EachMoment}
use Rattle.disk_model.specs.Changes.{Changes, AfterWrite, Unchanged}
use Rattle.disk_model.specs.DiskSeen.{DiskSeen, Ends, EndsWith, file_in, bytes_in}
use Rattle.disk_model.specs.declared.disk.Failed.{Failed}
use Rattle.gate_journal.specs.Gate.{ClosedAfter, record_text}
use Rattle.gate_journal.specs.Stand.{Stand, IsAtGate, IsReadable, text_before, with_record}
use Rattle.gate_journal.specs.Writes.{IsBeforeOrAfter, HoldsGate}
use Rattle.gate_journal.specs.Answers.{OpenAnswer, NextAnswer}
use Rattle.gate_journal.specs.declared.faults.JournalFault.{JournalFault}
use Rattle.gate_journal.specs.declared.faults.AppendFault.{AppendFault}
use Rattle.gate_journal.specs.declared.faults.JournalFault.TheVariants as journal_fault
use Rattle.gate_journal.specs.declared.faults.AppendFault.TheVariants as append_fault

-- A journal was begun: a closed gate was written at this place, and the file synced.
pub record Creates (tells : Bool) (file at limit : ℕ) (old new : DiskSeen) (result : Result Stand Failed) : Type 0 where
  pub ok : IfOk result (λ journal. journal ≡ record { file = file; length = at + 1; limit = limit; reached = true })
  pub at_gate : IsTrue tells → IfOk result (λ journal. IsAtGate journal (file_in new file))
  pub text : IsTrue tells → OnOk result (take at (bytes_in new file) ≡ take at (bytes_in old file))
  pub whole : IsTrue tells → OnOk result (bytes_in new file ≡ put (bytes_in old file) at (0 ∷ []))
  pub any_moment : IsTrue tells → EachMoment (Changes file (AfterWrite at 1) old.moments.now) old.moments new.moments
  pub ends : Ends old new result

-- A journal was opened whose first gate stands at this place. The gate is not looked at, and no write and no cut asked for.
pub record Opens (tells : Bool) (file at limit : ℕ) (old new : DiskSeen) (result : Result Stand JournalFault) : Type 0 where
  pub ok : IfOk result (λ journal. journal ≡ record { file = file; length = at + 1; limit = limit; reached = false })
  pub answer : IsTrue tells → OpenAnswer (bytes_in old file) at result
  pub readable : IsTrue tells → IfOk result (λ journal. IsReadable journal (file_in new file))
  pub memory : IsErrOf result journal_fault.NoMemory → ⊥
  pub unchanged : IsTrue tells → EachMoment (Unchanged old.moments.now) old.moments new.moments
  pub ends : EndsWith journal_fault.DiskFault old new result
  pub reads : new.changes ≡ old.changes

-- The next record was read, or a closed gate reached, without a write and a cut. How far the journal moved is said over every
-- disk.
pub record ReadsNext (tells : Bool) (old new : Stand) (into : List ℕ) (before after : DiskSeen) (result : Result Bool JournalFault) : Type 0 where
  pub answer : IsTrue tells → NextAnswer (bytes_in before old.file) old new into result
  pub readable : IsTrue tells → OnOk result (IsReadable new (file_in after new.file))
  pub at_gate : IsTrue tells → IfOk result (λ more. IsFalse more → IsAtGate new (file_in after new.file))
  pub text : IsTrue tells → IfOk result (λ more. IsTrue more → text_before new (bytes_in after new.file) ≡ text_before old (bytes_in before old.file) ++ record_text into)
  pub moved : IfOk result (λ more. IsTrue more → (new.length ≡ old.length + 5 + length into) × (new.length ≤ new.limit))
  pub stayed : IfOk result (λ more. IsFalse more → new ≡ record old { reached = true })
  pub same : (new.file ≡ old.file) × (new.limit ≡ old.limit)
  pub err : OnErr result (new ≡ old)
  pub unchanged : IsTrue tells → EachMoment (Unchanged before.moments.now) before.moments after.moments
  pub ends : EndsWith journal_fault.DiskFault before after result
  pub reads : after.changes ≡ before.changes

-- A record of this head and body was appended. After Ok the file is the old one, with the record and a closed gate
-- put behind its gate, and its gate opened.
pub record Appends {T : Type 0} (tells : Bool) (old new : Stand) (head body : List ℕ) (before after : DiskSeen) (result : Result T AppendFault) : Type 0 where
  pub ok : OnOk result (new ≡ record old { length = old.length + 5 + length head + length body })
  pub err : OnErr result (new ≡ old)
  pub at_gate : IsTrue tells → OnOk result (IsAtGate new (file_in after new.file))
  pub text : IsTrue tells → OnOk result (text_before new (bytes_in after new.file) ≡ text_before old (bytes_in before old.file) ++ record_text (head ++ body))
  pub whole : IsTrue tells → OnOk result (bytes_in after old.file ≡ with_record old (head ++ body) (bytes_in before old.file))
  pub any_moment : IsTrue tells → (let text_is = text_before old (bytes_in before old.file) in
      EachMoment (IsBeforeOrAfter old.file text_is (text_is ++ record_text (head ++ body)) before.moments.now) before.moments after.moments)
  pub durable : IsTrue tells → OnOk result ((image : List ℕ) → IsFileImage (file_in after old.file) image
      → ClosedAfter (text_before old (bytes_in before old.file) ++ record_text (head ++ body)) image)
  pub full : old.limit < old.length + 5 + length head + length body → IsErrOf result append_fault.Full
  pub only_full : IsErrOf result append_fault.Full → old.limit < old.length + 5 + length head + length body
  pub ends : EndsWith append_fault.DiskFault before after result

-- A gate of a settled file was opened.
pub record OpensGate {T : Type 0} (tells : Bool) (file gate : ℕ) (old new : DiskSeen) (result : Result T Failed) : Type 0 where
  pub opened : IsTrue tells → OnOk result (bytes_in new file ≡ put (bytes_in old file) gate (1 ∷ []))
  pub settled : IsTrue tells → OnOk result (IsSettled (file_in new file))
  pub any_moment : IsTrue tells → EachMoment (HoldsGate file gate (bytes_in old file) old.moments.now) old.moments new.moments
  pub ends : Ends old new result
