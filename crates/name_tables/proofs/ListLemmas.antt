-- Lists, and booleans.
use Rattle.std.proofs.Common.{◌≡◌, ℕ, ◌+◌, ◌≤◌, Bool, true, false, List, [], ◌∷◌, ◌++◌, length, refl, sym, ap, ◌∙◌, arith, length-append, suc, ◌-◌, ◌<◌, get_or, take, drop, zero}
use Rattle.std.proofs.lemmas.Grind.{common_steps}
use Rattle.std.specs.List.{AllByRecursion}
use Rattle.std.specs.Prelude.{None, Some, ◌||◌, slice_get}
use Rattle.nmc_base.specs.declared.hashes.OutPoint.{OutPoint}
use Rattle.chain_names.proofs.Shown.{true_is_not_false}

-- ---- all of a list

pub all-less : {A : Type 0} (P : A → Type 0) (xs : List A) (x : A) → AllByRecursion P (xs ++ x ∷ []) → AllByRecursion P xs
all-less P [] x all = tt
all-less P (y ∷ ys) x all = (all.0, all-less P ys x all.1)

pub all-last : {A : Type 0} (P : A → Type 0) (xs : List A) (x : A) → AllByRecursion P (xs ++ x ∷ []) → P x
all-last P [] x all = all.0
all-last P (y ∷ ys) x all = all-last P ys x all.1

pub one_more : {A : Type 0} (xs ys : List A) (x : A) → ys ≡ xs ++ x ∷ [] → length ys ≡ suc (length xs)
one_more xs ys x e = let long : length (xs ++ x ∷ []) ≡ length xs + 1 = length-append xs (x ∷ []) in omega (arith, ap length e, long)

-- ---- the front of a slice

pub front_of : {A : Type 0} (xs : List A) (d : A) → 1 ≤ length xs → xs ≡ get_or xs 0 d ∷ take (length xs - 1) (drop 1 xs)
front_of [] d some = absurd (omega (arith, some))
front_of (x ∷ xs) d some = ap (λ l. x ∷ l) (grind (arith, common_steps))

pub front_item : {A : Type 0} (xs : List A) (x : A) → 1 ≤ length xs → x ≡ get_or xs 0 x → xs ≡ x ∷ take (length xs - 1) (drop 1 xs)
front_item [] x some e = absurd (omega (arith, some))
front_item (y ∷ xs) x some e = ap (λ l. y ∷ l) (grind (arith, common_steps)) ∙ ap (λ z. z ∷ take (length (y ∷ xs) - 1) xs) (sym e)

pub shorter_of : {A : Type 0} (xs : List A) → 1 ≤ length xs → suc (length (take (length xs - 1) (drop 1 xs))) ≤ length xs
shorter_of xs some = grind (arith, common_steps, some)

pub nothing_of : {A : Type 0} (xs : List A) → length xs < 1 → xs ≡ []
nothing_of [] few = refl
nothing_of (x ∷ xs) few = absurd (omega (arith, few))

take_suc : (xs : List OutPoint) (i : ℕ) (x : OutPoint) → slice_get xs i ≡ Some x → take (suc i) xs ≡ take i xs ++ x ∷ []
take_suc [] i x e = absurd cc
take_suc (y ∷ xs) zero x e = let same : y ≡ x = cc in ap (λ z. z ∷ []) same
take_suc (y ∷ xs) (suc i) x e = ap (λ l. y ∷ l) (take_suc xs i x e)

pub take_next : (xs : List OutPoint) (i : ℕ) (x : OutPoint) → Some x ≡ slice_get xs i → take (i + 1) xs ≡ take i xs ++ x ∷ []
take_next xs i x e = let next : i + 1 ≡ suc i = omega arith in ap (λ n. take n xs) next ∙ take_suc xs i x (sym e)

-- there is an item before the end
pub item_there : (xs : List OutPoint) (i : ℕ) → i < length xs → None ≡ slice_get xs i → ⊥
item_there [] i below e = omega (arith, below)
item_there (y ∷ xs) zero below e = cc
item_there (y ∷ xs) (suc i) below e = item_there xs i (omega (arith, below)) e

-- ---- booleans

pub or_left : (a b : Bool) → (a || b) ≡ false → a ≡ false
or_left true b e = e
or_left false b e = refl

pub or_right : (a b : Bool) → (a || b) ≡ false → b ≡ false
or_right true b e = absurd (true_is_not_false e)
or_right false b e = e

pub or_both : (a b : Bool) → a ≡ false → b ≡ false → (a || b) ≡ false
or_both a b e f = rw e f
