-- Where a journal stands in its file.
use Rattle.std.specs.Prelude.{ℕ, ◌-◌, ◌≤◌, Bool, List, [], ◌∷◌, ◌++◌, length, take}
use Rattle.disk_model.specs.FileState.{FileState, IsSettled, put}
use Rattle.gate_journal.specs.Gate.{IsClosed, behind_gate}

-- the number of the file; the number of bytes up to and including the gate that the journal has come to; the
-- greatest such number; and whether that gate is known to be closed
pub record Stand : Type 0 where
  pub file : ℕ
  pub length : ℕ
  pub limit : ℕ
  pub reached : Bool

-- the place of that gate
abbrev pub gate_of : Stand → ℕ
gate_of journal = journal.length - 1

-- the text before it
abbrev pub text_before : Stand → List ℕ → List ℕ
text_before journal file = take (gate_of journal) file

-- the file with a record and a closed gate behind the journal's gate, and that gate open: no other byte is changed
abbrev pub with_record : Stand → List ℕ → List ℕ → List ℕ
with_record journal record_is file = put (put file journal.length (behind_gate record_is ++ 0 ∷ [])) (gate_of journal) (1 ∷ [])

-- the file is settled, and the journal's gate lies inside it
pub record IsReadable (journal : Stand) (file : FileState) : Type 0 where
  pub settled : IsSettled file
  pub inside : journal.length ≤ length file.bytes

-- the file is settled, and holds a closed gate where the journal stands
pub record IsAtGate (journal : Stand) (file : FileState) : Type 0 where
  pub settled : IsSettled file
  pub inside : journal.length ≤ length file.bytes
  pub closed : IsClosed file.bytes (gate_of journal)
