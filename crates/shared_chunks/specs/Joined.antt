-- Lists of pairs, one behind the other.
use Rattle.std.specs.Prelude.{◌≡◌, ℕ, List, [], ◌∷◌, ◌++◌, length, Option, None, Some}
use Rattle.std.specs.List.{AllByRecursion}
use Rattle.std.specs.declared.cmp.Ordering.{Ordering}
use Rattle.std.specs.declared.cmp.Ordering.TheVariants.{Less, Greater}

-- the lists, each behind the one before
abbrev pub joined : {X : Type 0} → List (List X) → List X
joined [] = []
joined (x ∷ xs) = x ++ joined xs

-- all keys of the lists before this place are lower, and all of those behind it are higher
pub record IsPart {K V : Type 0} (cmp : K → K → Ordering) (lists : List (List (K × V))) (key : K) (i : ℕ) : Type 0 where
  pub before : List (List (K × V))
  pub part : List (K × V)
  pub behind : List (List (K × V))
  pub split : lists ≡ before ++ part ∷ behind
  pub place : length before ≡ i
  pub lower : AllByRecursion (λ p. cmp key p.0 ≡ Greater) (joined before)
  pub higher : AllByRecursion (λ p. cmp key p.0 ≡ Less) (joined behind)

-- the pairs of a part that may lack
abbrev pub pairs_in : {X : Type 0} → Option (List X) → List X
pairs_in None = []
pairs_in (Some pairs) = pairs
