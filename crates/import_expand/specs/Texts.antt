-- Two texts are one exactly where the test says so, and then they feed the same to a hasher.
use Rattle.std.specs.Prelude.{◌≡◌, ℕ, true, List, [], ◌∷◌}
use mathlib.Core.Path.{ap}
use Rattle.std.specs.Hash as fed
use Rattle.std.specs.Str.{bytes_eq}
use Rattle.std.specs.Cmp.{IsEquivalence, IsPartialEquivalence, decided, partial_equiv_from_equiv}
use Rattle.std.specs.Cmp.Lexicographic.{bytes_decides}

pub bytes_eq-equivalence : IsEquivalence bytes_eq
bytes_eq-equivalence = decided bytes_eq bytes_decides

pub bytes_eq-partial_equivalence : IsPartialEquivalence bytes_eq
bytes_eq-partial_equivalence = partial_equiv_from_equiv bytes_eq-equivalence

abbrev pub text_writes : List ℕ → fed.HashWrites
text_writes text = text ∷ []

pub same_text_writes : (a b : List ℕ) → bytes_eq a b ≡ true → text_writes a ≡ text_writes b
same_text_writes a b h = ap text_writes ((bytes_decides a b).0 h)
