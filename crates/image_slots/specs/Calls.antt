-- What each call of slots and of a draft does, to these and to the disk.
use Rattle.std.specs.Prelude.{◌≡◌, ℕ, ◌+◌, ◌≤◌, Bool, IsTrue, List, [], ◌∷◌, ◌++◌, length, take, Result, OnOk, OnErr, IfOk, IfErr, MatchResult}
use Rattle.std.specs.Int.{w64, to_le_bytes}
use Rattle.disk_model.specs.FileState.{IsFileImage, IsSettled}
use Rattle.disk_model.specs.Moments.{EachMoment}
use Rattle.disk_model.specs.Changes.{LeavesOthers, Unchanged}
use Rattle.disk_model.specs.DiskSeen.{DiskSeen, Ends, EndsWith, file_in, bytes_in}
use Rattle.gate_journal.specs.Records.{IsArea}
use Rattle.gate_journal.specs.Stand.{Stand, IsReadable, gate_of}
use Rattle.image_slots.specs.Selections.{HasSelections, drafted_by, selections_file}
use Rattle.image_slots.specs.Slotted.{Slotted, AreOn, KeepsOrSelects, with_one_more}
use Rattle.image_slots.specs.Drafted.{Drafted, DraftHolds, DraftHoldsArea}
use Rattle.image_slots.specs.Answers.{FaultAnswer, SelectionAnswer, BeginAnswer}
use Rattle.image_slots.specs.declared.limits.SlotLimits.{SlotLimits}
use Rattle.image_slots.specs.declared.faults.SlotFault.{SlotFault}
use Rattle.image_slots.specs.declared.faults.SlotFault.TheVariants as slot_fault
use Rattle.image_slots.specs.declared.faults.DraftFault.{DraftFault}
use Rattle.image_slots.specs.declared.faults.DraftFault.TheVariants.{DiskFault}

-- The selection behind so many others was read, or a closed gate reached, without a write and a cut. How far the journal moved is said
-- over every disk.
pub record ReadsSelection (tells : Bool) (old new : Stand) (count : ℕ) (before after : DiskSeen) (result : Result Bool SlotFault) : Type 0 where
  pub answer : IsTrue tells → SelectionAnswer (bytes_in before selections_file) (gate_of old) old.limit count result
  pub moved : IfOk result (λ more. IsTrue more → (new.length ≡ old.length + 6) × (new.length ≤ old.limit))
  pub same : (new.file ≡ old.file) × (new.limit ≡ old.limit)
  pub readable : IsTrue tells → OnOk result (IsReadable new (file_in after selections_file))
  pub unchanged : IsTrue tells → EachMoment (Unchanged before.moments.now) before.moments after.moments
  pub ends : EndsWith slot_fault.DiskFault before after result
  pub reads : after.changes ≡ before.changes

-- The selections were counted behind a first gate inside the file, without a write and a cut.
pub record CountsSelections (tells : Bool) (at most : ℕ) (old new : DiskSeen) (result : Result ℕ SlotFault) : Type 0 where
  pub answer : IsTrue tells → (let file = bytes_in old selections_file in
      MatchResult result (λ count. HasSelections (take at file) count file) (FaultAnswer at most file))
  pub few : IfOk result (λ count. count ≤ most)
  pub unchanged : IsTrue tells → EachMoment (Unchanged old.moments.now) old.moments new.moments
  pub ends : EndsWith slot_fault.DiskFault old new result
  pub reads : new.changes ≡ old.changes

-- Slots were opened whose first gate stands at this place. No write and no cut was asked for.
pub record OpensSlots (tells : Bool) (at : ℕ) (limits : SlotLimits) (old new : DiskSeen) (result : Result Slotted SlotFault) : Type 0 where
  pub ok : IfOk result (λ slots. (slots.at ≡ at) × (slots.limits ≡ limits) × (slots.count ≤ limits.selections))
  pub answer : IsTrue tells → (let file = bytes_in old selections_file in
      MatchResult result (λ slots. HasSelections (take at file) slots.count file) (FaultAnswer at limits.selections file))
  pub on_disk : IsTrue tells → IfOk result (λ slots. AreOn (take at (bytes_in old selections_file)) slots (file_in new selections_file))
  pub unchanged : IsTrue tells → EachMoment (Unchanged old.moments.now) old.moments new.moments
  pub ends : EndsWith slot_fault.DiskFault old new result
  pub reads : new.changes ≡ old.changes

-- A draft was begun: its area is empty but for the length of the image. The selected area is among the files that stay.
pub record Begins (tells : Bool) (slots : Slotted) (image : ℕ) (old new : DiskSeen) (result : Result Drafted DraftFault) : Type 0 where
  pub answer : BeginAnswer slots image result
  pub holds : IsTrue tells → IfOk result (λ draft. DraftHolds draft [] (bytes_in new draft.file))
  pub others : IsTrue tells → EachMoment (LeavesOthers (drafted_by slots.count) old.moments.now) old.moments new.moments
  pub ends : EndsWith DiskFault old new result

-- A piece of the image, or of what is behind it, was added to the draft's area.
pub record AddsPiece {T : Type 0} (tells : Bool) (old new : Drafted) (piece : List ℕ) (before after : DiskSeen) (result : Result T DraftFault) : Type 0 where
  pub ok : OnOk result (new ≡ record old { written = old.written + length piece })
  pub err : OnErr result (new ≡ old)
  pub holds : IsTrue tells → (pieces : List ℕ) → DraftHolds old pieces (bytes_in before old.file) → OnOk result (DraftHolds new (pieces ++ piece) (bytes_in after new.file))
  pub others : IsTrue tells → EachMoment (LeavesOthers old.file before.moments.now) before.moments after.moments
  pub alone : IfErr result (λ fault. fault ≡ DiskFault)
  pub ends : Ends before after result

-- A draft was finished: its area has the image, the records behind it and a closed gate, and a crash leaves them.
pub record Finishes (tells : Bool) (draft : Drafted) (old new : DiskSeen) (result : Result ℕ DraftFault) : Type 0 where
  pub ok : IfOk result (λ ready. ready ≡ draft.file)
  pub settled : IsTrue tells → OnOk result (IsSettled (file_in new draft.file))
  pub whole : IsTrue tells → (pieces : List ℕ) → DraftHolds draft pieces (bytes_in old draft.file) → OnOk result (bytes_in new draft.file ≡ (to_le_bytes w64 draft.image ++ pieces) ++ 0 ∷ [])
  pub area : IsTrue tells → (image : List ℕ) (records : List (List ℕ)) → DraftHoldsArea draft image records (bytes_in old draft.file) → OnOk result (IsArea image records (bytes_in new draft.file))
  pub others : IsTrue tells → EachMoment (LeavesOthers draft.file old.moments.now) old.moments new.moments
  pub alone : IfErr result (λ fault. fault ≡ DiskFault)
  pub ends : Ends old new result

-- A selection was added to those on the disk, so that the new slots are on it. A crash meanwhile leaves the selections as before, or with
-- this one; after Ok each crash leaves this one too.
pub record AddsSelection {T E : Type 0} (tells : Bool) (old new : Slotted) (before after : DiskSeen) (result : Result T E) : Type 0 where
  pub on_disk : IsTrue tells → (front : List ℕ) → AreOn front old (file_in before selections_file) → OnOk result (AreOn front new (file_in after selections_file))
  pub any_moment : IsTrue tells → (front : List ℕ) → AreOn front old (file_in before selections_file)
      → EachMoment (KeepsOrSelects front old.count before.moments.now) before.moments after.moments
  pub durable : IsTrue tells → (front : List ℕ) → AreOn front old (file_in before selections_file)
      → OnOk result ((image : List ℕ) → IsFileImage (file_in after selections_file) image → HasSelections front (old.count + 1) image)
  pub ends : Ends before after result

-- The area that was drafted was selected.
pub record Selects (tells : Bool) (old new : Slotted) (before after : DiskSeen) (result : Result ℕ DraftFault) : Type 0 where
  pub ok : IfOk result (λ number. (number ≡ old.count + 1) × (new ≡ with_one_more old))
  pub err : OnErr result (new ≡ old)
  pub adds : AddsSelection tells old new before after result
  pub alone : IfErr result (λ fault. fault ≡ DiskFault)
