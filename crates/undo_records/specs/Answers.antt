-- What reading bytes answers. What is given is seen as a record by a view.
use Rattle.std.specs.Prelude.{◌≡◌, ℕ, ◌≤◌, List, length, drop, Result, Ok, Err}
use Rattle.chain_names.specs.Undo.{UndoRecord}
use Rattle.undo_records.specs.declared.fault.FaultKind.{FaultKind}
use Rattle.undo_records.specs.declared.fault.FaultKind.TheVariants.{Cut as cut, BadTag as bad_tag, Unsorted as unsorted}
use Rattle.undo_records.specs.declared.fault.UndoFault.{UndoFault}
use Rattle.undo_records.specs.declared.fault.UndoFault.TheVariants.{Cut, BadTag, Unsorted, NoMemory}
use Rattle.undo_records.specs.declared.version.Version.{Version}
use Rattle.undo_records.specs.Reading.{undo_from}
use Rattle.chain_names.specs.Seen.{seen_undo}
use Rattle.undo_records.specs.declared.reading.UndoV1.{UndoV1}

-- the field of a record of version 1
abbrev pub seen_v1 : UndoV1 → UndoRecord
seen_v1 read = seen_undo read.undo

-- the fault of a kind at a place
abbrev pub placed_fault : FaultKind → ℕ → UndoFault
placed_fault cut at = Cut at
placed_fault bad_tag at = BadTag at
placed_fault unsorted at = Unsorted at

-- reading stops at this place, with this kind
abbrev pub StopsAt : Version → List ℕ → FaultKind → ℕ → Type 0
StopsAt version bytes kind at = (undo_from version bytes ≡ Err (kind, drop at bytes)) × (at ≤ length bytes)

-- the answer is that of the reader on lists, or want of memory
abbrev pub GivesUndo : {X : Type 0} → (X → UndoRecord) → Version → List ℕ → Result (X × ℕ) UndoFault → Type 0
GivesUndo view version bytes (Ok x) = (undo_from version bytes ≡ Ok (view x.0, drop x.1 bytes)) × (x.1 ≤ length bytes)
GivesUndo view version bytes (Err (Cut at)) = StopsAt version bytes cut at
GivesUndo view version bytes (Err (BadTag at)) = StopsAt version bytes bad_tag at
GivesUndo view version bytes (Err (Unsorted at)) = StopsAt version bytes unsorted at
GivesUndo view version bytes (Err NoMemory) = Unit {0}

-- the fault has this cause, or memory ran out
abbrev pub IsCausedBy : (UndoFault → Type 0) → UndoFault → Type 0
IsCausedBy Cause (Cut at) = Cause (Cut at)
IsCausedBy Cause (BadTag at) = Cause (BadTag at)
IsCausedBy Cause (Unsorted at) = Cause (Unsorted at)
IsCausedBy Cause NoMemory = Unit {0}

-- the answer is this record with this length, or want of memory
abbrev pub AnswersUndo : {X : Type 0} → (X → UndoRecord) → UndoRecord → ℕ → Result (X × ℕ) UndoFault → Type 0
AnswersUndo view undo len (Ok x) = (view x.0 ≡ undo) × (x.1 ≡ len)
AnswersUndo view undo len (Err fault) = fault ≡ NoMemory

-- the answer is this fault, or want of memory
abbrev pub AnswersFault : {X : Type 0} → UndoFault → Result (X × ℕ) UndoFault → Type 0
AnswersFault fault (Ok x) = ⊥
AnswersFault fault (Err other) = IsCausedBy (λ given. given ≡ fault) other
