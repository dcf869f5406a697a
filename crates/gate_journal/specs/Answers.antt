-- What a journal answers when it is opened and read. The answers exclude one another, so each comes exactly
-- where its case says; a fault of the disk has its cause beside.
use Rattle.std.specs.Prelude.{◌≡◌, ◌+◌, ◌<◌, ◌≤◌, ℕ, Bool, true, false, List, length, Option, None, Some, Result, Ok, Err, ⊤}
use Rattle.gate_journal.specs.Gate.{IsOpen, IsClosed, IsRecordAt, IsStartAt, record_text}
use Rattle.gate_journal.specs.Stand.{Stand, gate_of}
use Rattle.gate_journal.specs.declared.faults.JournalFault.{JournalFault}
use Rattle.gate_journal.specs.declared.faults.JournalFault.TheVariants.{DiskFault, Damaged, NoMemory}

-- the file is damaged where the first gate does not lie inside it; no memory is wanted
abbrev pub OpenAnswer : List ℕ → ℕ → Result Stand JournalFault → Type 0
OpenAnswer file at (Ok journal) = at < length file
OpenAnswer file at (Err (Damaged place)) = (place ≡ at) × (length file ≤ at)
OpenAnswer file at (Err NoMemory) = ⊥
OpenAnswer file at (Err DiskFault) = ⊤

-- a record behind an open gate does not fit the file or the limit
pub record IsDamagedAt (file : List ℕ) (gate limit : ℕ) : Type 0 where
  pub is_open : IsOpen file gate
  pub no_record : (record_is : List ℕ) → IsRecordAt file gate limit record_is → ⊥

-- what stands at a gate: none, or a record of this many bytes
abbrev pub StartAnswer : List ℕ → ℕ → ℕ → Result (Option ℕ) JournalFault → Type 0
StartAnswer file gate limit (Ok None) = IsClosed file gate
StartAnswer file gate limit (Ok (Some size)) = IsStartAt file gate limit size
StartAnswer file gate limit (Err (Damaged place)) = (place ≡ gate) × IsDamagedAt file gate limit
StartAnswer file gate limit (Err NoMemory) = ⊥
StartAnswer file gate limit (Err DiskFault) = ⊤

-- the next record and the journal behind it; or a closed gate, which is then reached; or damage at the gate.
-- Memory is wanted only for a record that fits.
abbrev pub NextAnswer : List ℕ → Stand → Stand → List ℕ → Result Bool JournalFault → Type 0
NextAnswer file old new into (Ok true) =
    IsRecordAt file (gate_of old) old.limit into × (new ≡ record old { length = old.length + length (record_text into); reached = false })
NextAnswer file old new into (Ok false) = IsClosed file (gate_of old) × (new ≡ record old { reached = true })
NextAnswer file old new into (Err (Damaged place)) = (place ≡ gate_of old) × IsDamagedAt file (gate_of old) old.limit
NextAnswer file old new into (Err NoMemory) = (size : ℕ) × IsStartAt file (gate_of old) old.limit size
NextAnswer file old new into (Err DiskFault) = ⊤
