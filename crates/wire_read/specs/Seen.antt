-- What was read, or the first fault, as the readers on lists give it.
use Rattle.std.specs.Prelude.{ℕ, List, [], Result, Ok, Err}
use Rattle.block_grammar.specs.declared.kinds.TxKind.{TxKind}
use Rattle.wire_read.specs.declared.fault.Fault.{Fault}

abbrev pub seen : {X A : Type 0} → (X → A × List ℕ) → Result X Fault → Result (A × List ℕ) (TxKind × List ℕ)
seen view (Ok x) = Ok (view x)
seen view (Err fault) = Err (fault.kind, fault.rest.now)

-- where only the bytes after it are kept
abbrev pub seen_rest : {X : Type 0} → (X → List ℕ) → Result X Fault → Result (List ℕ) (TxKind × List ℕ)
seen_rest view (Ok x) = Ok (view x)
seen_rest view (Err fault) = Err (fault.kind, fault.rest.now)

-- the bytes after what was read, or the first fault
abbrev pub rest_read : {K A : Type 0} → Result (A × List ℕ) (K × List ℕ) → Result (List ℕ) (K × List ℕ)
rest_read (Ok x) = Ok x.1
rest_read (Err e) = Err e

-- the values that were read, or none
abbrev pub values_read : {A E : Type 0} → Result (List A × List ℕ) E → List A
values_read (Ok x) = x.0
values_read (Err e) = []

-- values were read
abbrev pub AreRead : {A E : Type 0} → Result (List A × List ℕ) E → Type 0
AreRead (Ok x) = Unit {0}
AreRead (Err e) = ⊥
