-- Histories: their last item, and their fronts.
use Rattle.std.proofs.Common.{◌≡◌, ℕ, zero, suc, ◌≤◌, List, [], ◌∷◌, take, refl, sym, ap, subst, ◌∙◌, le_trans}
use Rattle.std.specs.Prelude.{Some, None}
use Rattle.std.specs.List.{AllByRecursion}
use Rattle.nmc_base.specs.declared.hashes.OutPoint.{OutPoint}
use Rattle.chain_names.specs.declared.coin.Item.{Item}
use Rattle.chain_names.specs.Coins.{entry_of}
use Rattle.chain_names.specs.State.{IsUpTo, IsRising, IsLastItem}

-- a history with no last item is empty
pub no_entry : (items : List Item) → entry_of items ≡ None → items ≡ []
no_entry [] e = refl
no_entry (item ∷ []) e = absurd cc
no_entry (item ∷ next ∷ items) e =
    let none : next ∷ items ≡ [] = no_entry (next ∷ items) e in
    absurd cc

-- where the last item isn't too high, none is
pub all_up_to : (top : ℕ) (items : List Item) (item : Item) → IsRising items → entry_of items ≡ Some item → item.height ≤ top → AllByRecursion (IsUpTo top) items
all_up_to top [] item rising e low = tt
all_up_to top (first ∷ []) item rising e low =
    let same : first ≡ item = cc in
    (subst (λ (i : Item). i.height ≤ top) (sym same) low, tt)
all_up_to top (first ∷ next ∷ items) item rising e low =
    let rest = all_up_to top (next ∷ items) item rising.1 e low in
    (le_trans rising.0 rest.0, rest)

-- a history has one last item
pub one_item : (items : List Item) (item : Item) (height : ℕ) (point : OutPoint) → IsLastItem items height point → entry_of items ≡ Some item
    → (item.height ≡ height) × (item.at ≡ point)
one_item items item height point last e =
    let one : Item = record { height = height; registered = last.registered; at = point; value = last.value } in
    let some : Some item ≡ Some one = sym e ∙ last.last in
    let same : item ≡ one = cc in
    (ap (λ (i : Item). i.height) same, ap (λ (i : Item). i.at) same)

-- ---- fronts

pub rising-take : (n : ℕ) (items : List Item) → IsRising items → IsRising (take n items)
rising-take zero items rising = tt
rising-take (suc n) [] rising = tt
rising-take (suc n) (first ∷ []) rising = by n
  where
    by : (m : ℕ) → IsRising (first ∷ take m [])
    by zero = tt
    by (suc m) = tt
rising-take (suc n) (first ∷ next ∷ items) rising = by n (rising-take n (next ∷ items) rising.1)
  where
    by : (m : ℕ) → IsRising (take m (next ∷ items)) → IsRising (first ∷ take m (next ∷ items))
    by zero rest = tt
    by (suc m) rest = (rising.0, rest)

pub all-take : {A : Type 0} (P : A → Type 0) (n : ℕ) (xs : List A) → AllByRecursion P xs → AllByRecursion P (take n xs)
all-take P zero xs all = tt
all-take P (suc n) [] all = tt
all-take P (suc n) (x ∷ xs) all = (all.0, all-take P n xs all.1)
