-- Names in the order of their bytes.
use Rattle.std.specs.Prelude.{◌≡◌, ℕ, Bool, List, map}
use Rattle.std.specs.Cmp.Lexicographic.{slice_cmp}
use Rattle.std.specs.List.{list_any}
use Rattle.std.specs.List.Sorted.{IsStrictlySortedBy}
use Rattle.std.specs.Ordering.{nat_cmp}
use Rattle.std.specs.Str.{bytes_eq}
use denote.Ref.{Bor}

-- whether the list has the name
abbrev pub has_name : List (List ℕ) → List ℕ → Bool
has_name names name = list_any (bytes_eq name) names

-- Each name stands before the next: the first byte that differs decides, and a name stands before those that begin with it.
abbrev pub AreAscending : List (List ℕ) → Type 0
AreAscending names = IsStrictlySortedBy (slice_cmp nat_cmp) names

-- the bytes behind references
abbrev pub bytes_of : List (Bor (List ℕ)) → List (List ℕ)
bytes_of names = map (λ name. name.now) names

-- the second list has the names of the first, in order
pub record Orders (names ordered : List (List ℕ)) : Type 0 where
  pub ascending : AreAscending ordered
  pub same : (name : List ℕ) → has_name ordered name ≡ has_name names name
