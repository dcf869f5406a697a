-- Reading from left to right, up to the first fault: a value and the bytes after it; or a kind, and the bytes from the
-- first one on that makes the input no front of such a value's text (none, where the input ends too early).
use Rattle.std.specs.Prelude.{ℕ, zero, suc, ◌==◌, if◌then◌else◌, List, [], ◌∷◌, Result, Ok, Err}

infixl 10 ◌>>=◌
abbrev pub ◌>>=◌ : {A B E : Type 0} → Result A E → (A → Result B E) → Result B E
(Ok x) >>= f = f x
(Err e) >>= f = Err e

abbrev pub Reader : Type 0 → Type 0 → Type 0
Reader K A = List ℕ → Result (A × List ℕ) (K × List ℕ)

-- one value, and then another, whose format may depend on the first
abbrev pub then_from : {K A B : Type 0} → Reader K A → (A → Reader K B) → Reader K (A × B)
then_from first second bytes = do
  x ← first bytes
  y ← second x.0 x.1
  Ok ((x.0, y.0), y.1)

abbrev pub map_from : {K A B : Type 0} → (A → B) → Reader K A → Reader K B
map_from f read bytes = do
  x ← read bytes
  Ok (f x.0, x.1)

-- as many values as the number says
abbrev pub many_from : {K A : Type 0} → Reader K A → ℕ → Reader K (List A)
many_from read zero bytes = Ok ([], bytes)
many_from read (suc n) bytes = map_from (λ x. x.0 ∷ x.1) (then_from read (λ _. many_from read n)) bytes

-- a value in a part of something greater, which gives the kinds of that part
abbrev pub retold : {K L A : Type 0} → (K → L) → Result (A × List ℕ) (K × List ℕ) → Result (A × List ℕ) (L × List ℕ)
retold f (Ok x) = Ok x
retold f (Err e) = Err (f e.0, e.1)

abbrev pub within : {K L A : Type 0} → (K → L) → Reader K A → Reader L A
within f read bytes = retold f (read bytes)

-- a text that doesn't begin with 00
abbrev pub nonzero_from : {K A : Type 0} → K → Reader K A → Reader K A
nonzero_from kind read [] = read []
nonzero_from kind read (first ∷ rest) = if first == 0 then Err (kind, first ∷ rest) else read (first ∷ rest)
