-- What a reader at the front of bytes answers: a value and how many bytes it takes, or the first fault and its place.
use Rattle.std.specs.Prelude.{◌≡◌, ℕ, ◌≤◌, ◌↔◌, List, length, drop, Result, Ok, Err}
use Rattle.block_grammar.specs.declared.kinds.TxKind.{TxKind}
use Rattle.block_grammar.specs.declared.kinds.TxKind.TheVariants.{Cut}
use Rattle.block_grammar.specs.Fault.{StandsFirst, IsFrontPlace}
use Rattle.block_grammar.specs.FaultRows.{FaultRow}
use Rattle.block_grammar.specs.Combinators.{Reader}
use Rattle.wire_read.specs.declared.fault.TxFault.{TxFault}

-- The fault by the table of places, by the grammar alone: the place is that of the first byte that no text can have there;
-- the kind is that of the row that the bytes before the place and from it on are in; and Cut comes exactly where the
-- bytes end before there is such a byte.
pub record IsFault {A : Type 0} (text : A → List ℕ) (Fits : A → Type 0) (Byte : TxKind → List ℕ → List ℕ → Type 0) (bytes : List ℕ) (kind : TxKind) (place : ℕ) : Type 0 where
  pub first : IsFrontPlace text Fits bytes place
  pub row : FaultRow Byte kind bytes (drop place bytes)
  pub cut : (kind ≡ Cut) ↔ (place ≡ length bytes)

-- what was read is there, or the fault is the first
abbrev pub IsRead : {A : Type 0} → (A → List ℕ) → (A → Type 0) → (TxKind → List ℕ → List ℕ → Type 0) → List ℕ → Result (A × ℕ) TxFault → Type 0
IsRead text Fits Byte bytes (Ok (x, n)) = StandsFirst text Fits bytes x n
IsRead text Fits Byte bytes (Err fault) = IsFault text Fits Byte bytes fault.kind fault.at

-- the same by the reader on lists
abbrev pub Gives : {A : Type 0} → Reader TxKind A → List ℕ → Result (A × ℕ) TxFault → Type 0
Gives read bytes (Ok (x, n)) = (read bytes ≡ Ok (x, drop n bytes)) × (n ≤ length bytes)
Gives read bytes (Err fault) = (read bytes ≡ Err (fault.kind, drop fault.at bytes)) × (fault.at ≤ length bytes)
