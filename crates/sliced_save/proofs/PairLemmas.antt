-- Pairs of a map that change: what is known of each of them, what is found at each key, and how long their text is.
use Rattle.std.proofs.Common.{◌≡◌, ℕ, zero, suc, ◌+◌, arith, Bool, true, false, cond, List, [], ◌∷◌, length, map, Option, Some, None, refl, sym, ap, ◌∙◌, subst, length-append}
use Rattle.std.specs.Bool.{Decides}
use Rattle.std.specs.Cmp.{IsTotalOrder}
use Rattle.std.specs.List.{AllByRecursion, flat_map, slice_get}
use Rattle.std.specs.Ordering.{is_eq, match_ordering}
use Rattle.std.specs.declared.cmp.Ordering.{Ordering}
use Rattle.std.specs.declared.cmp.Ordering.TheVariants.{Less, Equal, Greater}
use Rattle.shared_chunks.specs.Pairs.{AreInOrder, value_at, with_pair, without_key}
use Rattle.shared_chunks.proofs.Lookups.{value_at-with_pair, value_at-without_key}
use Rattle.shared_chunks.proofs.Order.{higher_back, order_tail}
use Rattle.shared_chunks.proofs.Places.{value_at-gap}
use Rattle.sliced_save.specs.Lengths.{weight}

-- ---- what is known of each

module _ {K V : Type 0} (P : K × V → Type 0) (cmp : K → K → Ordering) where
  pub all_with : (pairs : List (K × V)) (k : K) (v : V) → P (k, v) → AllByRecursion P pairs → AllByRecursion P (with_pair cmp pairs k v)
  all_with [] k v here all = (here, tt)
  all_with (p ∷ ps) k v here all =
      elim (cmp k p.0) as (λ r. AllByRecursion P (match_ordering r ((k, v) ∷ p ∷ ps) ((k, v) ∷ ps) (p ∷ with_pair cmp ps k v))) [
        | Less ↦ (here, all)
        | Equal ↦ (here, all.1)
        | Greater ↦ (all.0, all_with ps k v here all.1)
      ]

  pub all_without : (pairs : List (K × V)) (k : K) → AllByRecursion P pairs → AllByRecursion P (without_key cmp pairs k)
  all_without [] k all = tt
  all_without (p ∷ ps) k all =
      elim (is_eq (cmp k p.0)) as (λ b. AllByRecursion P (cond b ps (p ∷ without_key cmp ps k))) [ true ↦ all.1 | false ↦ (all.0, all_without ps k all.1) ]

  -- what is found is one of them
  pub all_found : ((x y : K) → cmp x y ≡ Equal → x ≡ y) → (pairs : List (K × V)) (k : K) (v : V) → AllByRecursion P pairs → value_at cmp pairs k ≡ Some v → P (k, v)
  all_found exact [] k v all e = absurd (cc e)
  all_found exact (p ∷ ps) k v all e =
      elim (cmp k p.0) as (λ r. cmp k p.0 ≡ r → cond (is_eq r) (Some p.1) (value_at cmp ps k) ≡ Some v → P (k, v)) [
        | Less ↦ λ is found. all_found exact ps k v all.1 found
        | Equal ↦ λ is found.
            let value : p.1 ≡ v = cc found in
            subst (λ (x : K). P (x, v)) (sym (exact k p.0 is)) (subst (λ (w : V). P (p.0, w)) value all.0)
        | Greater ↦ λ is found. all_found exact ps k v all.1 found
      ] refl e

pub all_get : {X : Type 0} (P : X → Type 0) (xs : List X) (i : ℕ) (x : X) → AllByRecursion P xs → slice_get xs i ≡ Some x → P x
all_get P [] i x all e = absurd (cc e)
all_get P (y ∷ xs) zero x all e =
    let same : y ≡ x = cc e in
    subst P same all.0
all_get P (y ∷ xs) (suc i) x all e = all_get P xs i x all.1 e

-- ---- what is found

module _ {K : Type 0} (same : K → K → Bool) (cmp : K → K → Ordering) (decides : (a b : K) → Decides (same a b) (a ≡ b)) (ties : (a b : K) → is_eq (cmp a b) ≡ same a b) where
  pub turned_same : (a b : K) → same a b ≡ same b a
  turned_same a b = by (same a b) (same b a) refl refl
    where
      by : (x y : Bool) → same a b ≡ x → same b a ≡ y → x ≡ y
      by true true e f = refl
      by true false e f = sym ((decides b a).1 (sym ((decides a b).0 e))) ∙ f
      by false true e f = sym e ∙ (decides a b).1 (sym ((decides b a).0 f))
      by false false e f = refl

  pub by_key : (k q : K) → is_eq (cmp q k) ≡ same k q
  by_key k q = ties q k ∙ turned_same q k

  pub exact_by : (a b : K) → cmp a b ≡ Equal → a ≡ b
  exact_by a b e = (decides a b).0 (sym (ties a b) ∙ ap is_eq e)

  module _ {V : Type 0} (o : IsTotalOrder cmp) where
    pub found_set : (pairs : List (K × V)) (k : K) (v : V) (q : K) → value_at cmp (with_pair cmp pairs k v) q ≡ cond (same k q) (Some v) (value_at cmp pairs q)
    found_set pairs k v q = value_at-with_pair o pairs k v q ∙ ap (λ b. cond b (Some v) (value_at cmp pairs q)) (by_key k q)

    pub found_unset : (pairs : List (K × V)) (k q : K) → AreInOrder cmp pairs → value_at cmp (without_key cmp pairs k) q ≡ cond (same k q) None (value_at cmp pairs q)
    found_unset pairs k q order = value_at-without_key o pairs k q order ∙ ap (λ b. cond b None (value_at cmp pairs q)) (by_key k q)

-- ---- how long their text is

module _ {K V Y : Type 0} (f : K × V → Y) (text : Y → List ℕ) (cmp : K → K → Ordering) (exact : (x y : K) → cmp x y ≡ Equal → x ≡ y) where
  abbrev size : List (K × V) → ℕ
  size pairs = length (flat_map text (map f pairs))

  abbrev weighs : K → Option V → ℕ
  weighs k v = weight (λ (pair : K × V). text (f pair)) k v

  one_size : (p : K × V) (ps : List (K × V)) → size (p ∷ ps) ≡ length (text (f p)) + size ps
  one_size p ps = length-append (text (f p)) (flat_map text (map f ps))

  same_weight : (k : K) (p : K × V) → cmp k p.0 ≡ Equal → length (text (f (k, p.1))) ≡ length (text (f p))
  same_weight k p e = ap (λ (x : K). length (text (f (x, p.1)))) (exact k p.0 e)

  pub set_size : IsTotalOrder cmp → (pairs : List (K × V)) (k : K) (v : V) → AreInOrder cmp pairs
      → size (with_pair cmp pairs k v) + weighs k (value_at cmp pairs k) ≡ size pairs + length (text (f (k, v)))
  set_size o [] k v order = omega (arith, one_size (k, v) [])
  set_size o (p ∷ ps) k v order =
      elim (cmp k p.0) as (λ r. cmp k p.0 ≡ r → size (match_ordering r ((k, v) ∷ p ∷ ps) ((k, v) ∷ ps) (p ∷ with_pair cmp ps k v)) + weighs k (cond (is_eq r) (Some p.1) (value_at cmp ps k)) ≡ size (p ∷ ps) + length (text (f (k, v)))) [
        | Less ↦ λ is.
            let none : value_at cmp (p ∷ ps) k ≡ None = value_at-gap cmp k [] (p ∷ ps) tt (higher_back o k p ps order is) in
            let gone : value_at cmp ps k ≡ None = ap (λ r. cond (is_eq r) (Some p.1) (value_at cmp ps k)) (sym is) ∙ none in
            omega (arith, one_size (k, v) (p ∷ ps), ap (weighs k) gone)
        | Equal ↦ λ is. omega (arith, one_size (k, v) ps, one_size p ps, same_weight k p is)
        | Greater ↦ λ is. omega (arith, one_size p (with_pair cmp ps k v), one_size p ps, set_size o ps k v (order_tail cmp p ps order))
      ] refl

  pub unset_size : (pairs : List (K × V)) (k : K) → size (without_key cmp pairs k) + weighs k (value_at cmp pairs k) ≡ size pairs
  unset_size [] k = refl
  unset_size (p ∷ ps) k =
      elim (cmp k p.0) as (λ r. cmp k p.0 ≡ r → size (cond (is_eq r) ps (p ∷ without_key cmp ps k)) + weighs k (cond (is_eq r) (Some p.1) (value_at cmp ps k)) ≡ size (p ∷ ps)) [
        | Less ↦ λ is. omega (arith, one_size p (without_key cmp ps k), one_size p ps, unset_size ps k)
        | Equal ↦ λ is. omega (arith, one_size p ps, same_weight k p is)
        | Greater ↦ λ is. omega (arith, one_size p (without_key cmp ps k), one_size p ps, unset_size ps k)
      ] refl
