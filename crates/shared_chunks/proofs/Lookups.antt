-- What a look-up finds after a pair was put in, or a key taken out; and that the look-ups determine the pairs.
use Rattle.std.proofs.Common.{◌≡◌, Bool, true, false, cond, List, [], ◌∷◌, Some, None, refl, sym, ap, ◌∙◌, subst}
use Rattle.std.specs.Cmp.{IsTotalOrder, alike_right, tied_itself}
use Rattle.std.specs.Map.{keys_of}
use Rattle.std.specs.declared.cmp.Ordering.{Ordering}
use Rattle.std.specs.declared.cmp.Ordering.TheVariants.{Less, Equal, Greater}
use Rattle.std.specs.Ordering.{is_eq, match_ordering}
use Rattle.shared_chunks.specs.Pairs.{AreInOrder, value_at, with_pair, without_key}
use Rattle.shared_chunks.proofs.Order.{all_each, all_pairs, order_head, order_tail, higher_back, turned}
use Rattle.shared_chunks.proofs.Places.{value_at-gap}

swapped : {X : Type 0} (a b : Bool) (x y z : X) → (b ≡ true → a ≡ false) → cond a x (cond b y z) ≡ cond b y (cond a x z)
swapped true true x y z h = absurd (cc (h refl))
swapped true false x y z h = refl
swapped false b x y z h = refl

same : {X : Type 0} (a : Bool) (x y z : X) → cond a x z ≡ cond a x (cond a y z)
same true x y z = refl
same false x y z = refl

alike : {X : Type 0} (a : Bool) (x : X) → x ≡ cond a x x
alike true x = refl
alike false x = refl

same_pair : {K V : Type 0} (p q : K × V) → p.0 ≡ q.0 → Some p.1 ≡ Some q.1 → p ≡ q
same_pair (k, v) (l, w) e f = let g : v ≡ w = cc f in cc (e, g)

module _ {K : Type 0} {cmp : K → K → Ordering} (o : IsTotalOrder cmp) where
  equal_from_is_eq : (x y : K) (r : Ordering) → cmp x y ≡ r → is_eq r ≡ true → cmp x y ≡ Equal
  equal_from_is_eq x y Less e t = absurd (cc t)
  equal_from_is_eq x y Equal e t = e
  equal_from_is_eq x y Greater e t = absurd (cc t)

  -- a key that is equal to one of two keys that differ is unequal to the other
  is_eq-apart : (q key k : K) → is_eq (cmp key k) ≡ false → is_eq (cmp q key) ≡ true → is_eq (cmp q k) ≡ false
  is_eq-apart q key k e t = ap is_eq (o.congr q key k (equal_from_is_eq q key (cmp q key) refl t)) ∙ e

module _ {K V : Type 0} {cmp : K → K → Ordering} (o : IsTotalOrder cmp) where
  pub value_at-with_pair : (pairs : List (K × V)) (key : K) (value : V) (q : K) → value_at cmp (with_pair cmp pairs key value) q ≡ cond (is_eq (cmp q key)) (Some value) (value_at cmp pairs q)
  value_at-with_pair [] key value q = refl
  value_at-with_pair (p ∷ ps) key value q =
      elim (cmp key p.0) as (λ r. cmp key p.0 ≡ r → value_at cmp (match_ordering r ((key, value) ∷ p ∷ ps) ((key, value) ∷ ps) (p ∷ with_pair cmp ps key value)) q ≡ cond (is_eq (cmp q key)) (Some value) (cond (is_eq (cmp q p.0)) (Some p.1) (value_at cmp ps q))) [
        | Less ↦ λ _. refl
        | Equal ↦ λ e. rw (alike_right o key p.0 q e) (same (is_eq (cmp q p.0)) (Some value) (Some p.1) (value_at cmp ps q))
        | Greater ↦ λ e. rw (value_at-with_pair ps key value q) (swapped (is_eq (cmp q p.0)) (is_eq (cmp q key)) (Some p.1) (Some value) (value_at cmp ps q) (is_eq-apart o q key p.0 (ap is_eq e)))
      ] refl

  -- no key that isn't above the first is among the others
  above_less : (k : K) (p : K × V) (ps : List (K × V)) → AreInOrder cmp (p ∷ ps) → cmp k p.0 ≡ Less → value_at cmp (p ∷ ps) k ≡ None
  above_less k p ps s e = value_at-gap cmp k [] (p ∷ ps) tt (higher_back o k p ps s e)

  above_equal : (k : K) (p : K × V) (ps : List (K × V)) → AreInOrder cmp (p ∷ ps) → cmp k p.0 ≡ Equal → value_at cmp ps k ≡ None
  above_equal k p ps s e =
      value_at-gap cmp k [] ps tt (all_pairs _ ps (all_each (λ y. cmp p.0 y ≡ Less) (λ y. cmp k y ≡ Less) (λ y h. o.congr k p.0 y e ∙ h) (keys_of ps) (order_head cmp p ps s)))

  none_twice : (q : K) (p : K × V) (ps : List (K × V)) (b : Bool) → AreInOrder cmp (p ∷ ps) → is_eq (cmp q p.0) ≡ b → value_at cmp ps q ≡ cond b None (cond b (Some p.1) (value_at cmp ps q))
  none_twice q p ps true s e = above_equal q p ps s (equal_from_is_eq o q p.0 (cmp q p.0) refl e)
  none_twice q p ps false s e = refl

  pub value_at-without_key : (pairs : List (K × V)) (key q : K) → AreInOrder cmp pairs → value_at cmp (without_key cmp pairs key) q ≡ cond (is_eq (cmp q key)) None (value_at cmp pairs q)
  value_at-without_key [] key q s = alike (is_eq (cmp q key)) None
  value_at-without_key (p ∷ ps) key q s =
      elim (is_eq (cmp key p.0)) as (λ b. is_eq (cmp key p.0) ≡ b → value_at cmp (cond b ps (p ∷ without_key cmp ps key)) q ≡ cond (is_eq (cmp q key)) None (cond (is_eq (cmp q p.0)) (Some p.1) (value_at cmp ps q))) [
        | true ↦ λ e. rw (alike_right o key p.0 q (equal_from_is_eq o key p.0 (cmp key p.0) refl e)) (none_twice q p ps (is_eq (cmp q p.0)) s refl)
        | false ↦ λ e. rw (value_at-without_key ps key q (order_tail cmp p ps s)) (swapped (is_eq (cmp q p.0)) (is_eq (cmp q key)) (Some p.1) None (value_at cmp ps q) (is_eq-apart o q key p.0 e))
      ] refl

  found_first : (p : K × V) (ps : List (K × V)) → value_at cmp (p ∷ ps) p.0 ≡ Some p.1
  found_first p ps = ap (λ r. cond (is_eq r) (Some p.1) (value_at cmp ps p.0)) (tied_itself o p.0)

  tails_same : (k : K) (p q : K × V) (a b : List (K × V)) (t : Bool) → AreInOrder cmp (p ∷ a) → AreInOrder cmp (q ∷ b) → p ≡ q → is_eq (cmp k p.0) ≡ t
      → cond t (Some p.1) (value_at cmp a k) ≡ value_at cmp (q ∷ b) k → value_at cmp a k ≡ value_at cmp b k
  tails_same k p q a b true s u e h f =
      let equal = equal_from_is_eq o k p.0 (cmp k p.0) refl h in
      above_equal k p a s equal ∙ sym (above_equal k q b u (subst (λ (z : K × V). cmp k z.0 ≡ Equal) e equal))
  tails_same k p q a b false s u e h f =
      f ∙ ap (λ t. cond t (Some q.1) (value_at cmp b k)) (ap (λ (z : K × V). is_eq (cmp k z.0)) (sym e) ∙ h)

  -- pairs in order with the same look-ups are the same, where equal keys are
  pub same_pairs : ((x y : K) → cmp x y ≡ Equal → x ≡ y) → (a b : List (K × V)) → AreInOrder cmp a → AreInOrder cmp b → ((k : K) → value_at cmp a k ≡ value_at cmp b k) → a ≡ b
  same_pairs exact [] [] s u f = refl
  same_pairs exact [] (q ∷ b) s u f = absurd (cc (f q.0 ∙ found_first q b))
  same_pairs exact (p ∷ a) [] s u f = absurd (cc (sym (f p.0) ∙ found_first p a))
  same_pairs exact (p ∷ a) (q ∷ b) s u f =
      elim (cmp p.0 q.0) as (λ r. cmp p.0 q.0 ≡ r → p ∷ a ≡ q ∷ b) [
        | Less ↦ λ e. absurd (cc (sym (found_first p a) ∙ f p.0 ∙ above_less p.0 q b u e))
        | Equal ↦ λ e.
            let key : p.0 ≡ q.0 = exact p.0 q.0 e in
            let value : Some p.1 ≡ Some q.1 = sym (found_first p a) ∙ f p.0 ∙ ap (value_at cmp (q ∷ b)) key ∙ found_first q b in
            let pair : p ≡ q = same_pair p q key value in
            let rest = same_pairs exact a b (order_tail cmp p a s) (order_tail cmp q b u) (λ k. tails_same k p q a b (is_eq (cmp k p.0)) s u pair refl (f k)) in
            cc (pair, rest)
        | Greater ↦ λ e. absurd (cc (sym (found_first q b) ∙ sym (f q.0) ∙ above_less q.0 p a s (turned o p.0 q.0 Greater e)))
      ] refl
