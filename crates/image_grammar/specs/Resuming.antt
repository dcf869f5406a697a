-- Reading in pieces: value by value, with what was gathered, and then the rest of the text.
use Rattle.std.specs.Prelude.{◌≡◌, ℕ, zero, suc, List, ◌++◌, ◌⊎◌, Result, Ok, Err}
use Rattle.block_grammar.specs.Combinators.{◌>>=◌}
use Rattle.undo_records.specs.declared.fault.FaultKind.{FaultKind}
use Rattle.undo_records.specs.declared.fault.FaultKind.TheVariants.{Cut}
use Rattle.undo_records.specs.Reading.{Reads}

-- So many values, each read by what was gathered before it and added to that, and then the rest. Between two values the
-- reading may stop: what is left to do is the same with fewer values and more gathered.
abbrev pub fold_then : {S A R : Type 0} → (S → Reads A) → (S → A → S) → ℕ → S → (S → Reads R) → Reads R
fold_then read add zero s rest bytes = rest s bytes
fold_then read add (suc n) s rest bytes = read s bytes >>= λ x. fold_then read add n (add s x.0) rest x.1

-- a value and the bytes behind it, or the kind of the first fault and the bytes from its place on
abbrev pub Answer : Type 0 → Type 0
Answer A = Result (A × List ℕ) (FaultKind × List ℕ)

-- the same answer, where more bytes follow
abbrev pub grown : {A : Type 0} → List ℕ → Answer A → Answer A
grown more (Ok x) = Ok (x.0, x.1 ++ more)
grown more (Err e) = Err (e.0, e.1 ++ more)

-- the bytes end too early
abbrev pub EndsEarly : {A : Type 0} → Answer A → Type 0
EndsEarly (Ok x) = ⊥
EndsEarly (Err e) = e.0 ≡ Cut

-- the bytes end too early, or the answer stands where more follow
abbrev pub Stands : {A : Type 0} → List ℕ → Answer A → Answer A → Type 0
Stands more now then = EndsEarly now ⊎ (then ≡ grown more now)

-- what is answered stands whatever follows, but for an early end
abbrev pub IsStable : {A : Type 0} → Reads A → Type 0
IsStable read = (bytes more : List ℕ) → Stands more (read bytes) (read (bytes ++ more))
