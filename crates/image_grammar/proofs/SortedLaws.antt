-- Keys of which each is above the one before it are in order.
use Rattle.std.proofs.Common.{◌≡◌, List, [], ◌∷◌, Option, Some, None}
use Rattle.std.specs.Cmp.{IsTotalOrder}
use Rattle.std.specs.List.{AllByRecursion}
use Rattle.std.specs.List.Sorted.{IsStrictlySortedBy}
use Rattle.std.specs.declared.cmp.Ordering.{Ordering}
use Rattle.std.specs.declared.cmp.Ordering.TheVariants.{Less}

module _ {K : Type 0} (cmp : K → K → Ordering) (total : IsTotalOrder cmp) where
  -- above the key before it, if there is one
  abbrev pub IsAboveLast : Option K → K → Type 0
  IsAboveLast None key = Unit {0}
  IsAboveLast (Some last) key = cmp last key ≡ Less

  abbrev pub Rise : Option K → List K → Type 0
  Rise last [] = Unit {0}
  Rise last (key ∷ keys) = IsAboveLast last key × Rise (Some key) keys

  above_all : (low key : K) (keys : List K) → cmp low key ≡ Less → AllByRecursion (λ y. cmp key y ≡ Less) keys → AllByRecursion (λ y. cmp low y ≡ Less) keys
  above_all low key [] less all = tt
  above_all low key (next ∷ keys) less all = (total.trans low key next less all.0, above_all low key keys less all.1)

  all_above : (low : K) (keys : List K) → Rise (Some low) keys → AllByRecursion (λ y. cmp low y ≡ Less) keys
  all_above low [] rise = tt
  all_above low (key ∷ keys) rise = (rise.0, above_all low key keys rise.0 (all_above key keys rise.1))

  pub rise_sorted : (last : Option K) (keys : List K) → Rise last keys → IsStrictlySortedBy cmp keys
  unfolding IsStrictlySortedBy
  rise_sorted last [] rise = tt
  rise_sorted last (key ∷ keys) rise = (all_above key keys rise.1, rise_sorted (Some key) keys rise.1)
