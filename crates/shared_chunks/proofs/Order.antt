-- Pairs in the order of their keys, around a pair.
use Rattle.std.proofs.Common.{◌≡◌, ℕ, ◌+◌, ◌<◌, ◌≤◌, true, false, cond, List, [], ◌∷◌, ◌++◌, length, refl, sym, ap, ◌∙◌, append_assoc, length-append, arith}
use Rattle.std.specs.Cmp.{IsTotalOrder, alike_right}
use Rattle.std.specs.List.{AllByRecursion}
use Rattle.std.specs.List.Sorted.{IsStrictlySortedBy}
use Rattle.std.specs.Map.{keys_of}
use Rattle.std.specs.declared.cmp.Ordering.{Ordering}
use Rattle.std.specs.declared.cmp.Ordering.TheVariants.{Less, Equal, Greater}
use Rattle.std.specs.Ordering.{is_eq, match_ordering, ordering_reverse}
use Rattle.shared_chunks.specs.Pairs.{AreInOrder, IsAt, IsGap, with_pair, without_key}

pub order_none : {K : Type 0} (V : Type 0) (cmp : K → K → Ordering) → AreInOrder {V = V} cmp []
unfolding IsStrictlySortedBy
order_none V cmp = tt

module _ {X : Type 0} where
  pub all_append : (P : X → Type 0) (a b : List X) → AllByRecursion P a → AllByRecursion P b → AllByRecursion P (a ++ b)
  all_append P [] b p q = q
  all_append P (x ∷ a) b p q = (p.0, all_append P a b p.1 q)

  pub all_each : (P Q : X → Type 0) → ((x : X) → P x → Q x) → (a : List X) → AllByRecursion P a → AllByRecursion Q a
  all_each P Q f [] p = tt
  all_each P Q f (x ∷ a) p = (f x p.0, all_each P Q f a p.1)

module _ {K V : Type 0} where
  -- what holds of the key of each pair holds of each key, and the other way round
  pub all_keys : (P : K → Type 0) (a : List (K × V)) → AllByRecursion (λ p. P p.0) a → AllByRecursion P (keys_of a)
  all_keys P [] h = tt
  all_keys P (p ∷ a) h = (h.0, all_keys P a h.1)

  pub all_pairs : (P : K → Type 0) (a : List (K × V)) → AllByRecursion P (keys_of a) → AllByRecursion (λ p. P p.0) a
  all_pairs P [] h = tt
  all_pairs P (p ∷ a) h = (h.0, all_pairs P a h.1)

  pub keys_front : (P : K → Type 0) (a b : List (K × V)) → AllByRecursion P (keys_of (a ++ b)) → AllByRecursion P (keys_of a)
  keys_front P [] b h = tt
  keys_front P (p ∷ a) b h = (h.0, keys_front P a b h.1)

  pub keys_back : (P : K → Type 0) (a b : List (K × V)) → AllByRecursion P (keys_of (a ++ b)) → AllByRecursion P (keys_of b)
  keys_back P [] b h = h
  keys_back P (p ∷ a) b h = keys_back P a b h.1

  pub keys_append : (P : K → Type 0) (a b : List (K × V)) → AllByRecursion P (keys_of a) → AllByRecursion P (keys_of b) → AllByRecursion P (keys_of (a ++ b))
  keys_append P [] b h k = k
  keys_append P (p ∷ a) b h k = (h.0, keys_append P a b h.1 k)

  module _ (cmp : K → K → Ordering) where
    pub order_head : (p : K × V) (a : List (K × V)) → AreInOrder cmp (p ∷ a) → AllByRecursion (λ y. cmp p.0 y ≡ Less) (keys_of a)
    unfolding IsStrictlySortedBy
    order_head p a s = s.0

    pub order_tail : (p : K × V) (a : List (K × V)) → AreInOrder cmp (p ∷ a) → AreInOrder cmp a
    unfolding IsStrictlySortedBy
    order_tail p a s = s.1

    pub order_cons : (p : K × V) (a : List (K × V)) → AllByRecursion (λ y. cmp p.0 y ≡ Less) (keys_of a) → AreInOrder cmp a → AreInOrder cmp (p ∷ a)
    unfolding IsStrictlySortedBy
    order_cons p a h s = (h, s)

    pub order_front : (a b : List (K × V)) → AreInOrder cmp (a ++ b) → AreInOrder cmp a
    order_front [] b s = order_none V cmp
    order_front (p ∷ a) b s = order_cons p a (keys_front _ a b (order_head p (a ++ b) s)) (order_front a b (order_tail p (a ++ b) s))

    pub order_back : (a b : List (K × V)) → AreInOrder cmp (a ++ b) → AreInOrder cmp b
    order_back [] b s = s
    order_back (p ∷ a) b s = order_back a b (order_tail p (a ++ b) s)

    -- without the pair in the middle
    pub order_without : (a : List (K × V)) (p : K × V) (b : List (K × V)) → AreInOrder cmp (a ++ p ∷ b) → AreInOrder cmp (a ++ b)
    order_without [] p b s = order_tail p b s
    order_without (q ∷ a) p b s =
        let h = order_head q (a ++ p ∷ b) s in
        let k : AllByRecursion (λ y. cmp q.0 y ≡ Less) (keys_of (p ∷ b)) = keys_back _ a (p ∷ b) h in
        order_cons q (a ++ b) (keys_append _ a b (keys_front _ a (p ∷ b) h) k.1) (order_without a p b (order_tail q (a ++ p ∷ b) s))

module _ {K : Type 0} {cmp : K → K → Ordering} (o : IsTotalOrder cmp) where
  pub turned : (x y : K) (r : Ordering) → cmp x y ≡ r → cmp y x ≡ ordering_reverse r
  turned x y r e = o.antisymm y x ∙ ap ordering_reverse e

  pub above_from_greater : (key k : K) → cmp key k ≡ Greater → (x : K) → cmp x k ≡ Less → cmp key x ≡ Greater
  above_from_greater key k e x h = turned x key Less (o.trans x k key h (turned key k Greater e))

  pub above_from_equal : (key k : K) → cmp key k ≡ Equal → (x : K) → cmp x k ≡ Less → cmp key x ≡ Greater
  above_from_equal key k e x h = o.congr key k x e ∙ turned x k Less h

module _ {K V : Type 0} {cmp : K → K → Ordering} (o : IsTotalOrder cmp) where
  -- of a key that isn't below that of the pair in the middle, all keys before are lower
  pub lower_front : (key : K) (a : List (K × V)) (p : K × V) (b : List (K × V)) → AreInOrder cmp (a ++ p ∷ b)
      → ((x : K) → cmp x p.0 ≡ Less → cmp key x ≡ Greater) → AllByRecursion (λ q. cmp key q.0 ≡ Greater) a
  lower_front key [] p b s above = tt
  lower_front key (q ∷ a) p b s above =
      let h : AllByRecursion (λ y. cmp q.0 y ≡ Less) (keys_of (p ∷ b)) = keys_back _ a (p ∷ b) (order_head cmp q (a ++ p ∷ b) s) in
      (above q.0 h.0, lower_front key a p b (order_tail cmp q (a ++ p ∷ b) s) above)

  pub higher_back : (key : K) (p : K × V) (b : List (K × V)) → AreInOrder cmp (p ∷ b) → cmp key p.0 ≡ Less → AllByRecursion (λ q. cmp key q.0 ≡ Less) (p ∷ b)
  higher_back key p b s e =
      (e, all_pairs _ b (all_each (λ y. cmp p.0 y ≡ Less) (λ y. cmp key y ≡ Less) (λ y h. o.trans key p.0 y e h) (keys_of b) (order_head cmp p b s)))

  pub gap_none : (key : K) → IsGap {V = V} cmp [] key 0
  gap_none key = record { before = []; behind = []; split = refl; place = refl; lower = tt; higher = tt }

  pub gap_left : (a : List (K × V)) (p : K × V) (b : List (K × V)) (key : K) (i : ℕ) → AreInOrder cmp (a ++ p ∷ b) → cmp key p.0 ≡ Less → IsGap cmp a key i → IsGap cmp (a ++ p ∷ b) key i
  gap_left a p b key i s e g = record {
    before = g.before;
    behind = g.behind ++ p ∷ b;
    split = ap (λ z. z ++ p ∷ b) g.split ∙ append_assoc g.before g.behind (p ∷ b);
    place = g.place;
    lower = g.lower;
    higher = all_append _ g.behind (p ∷ b) g.higher (higher_back key p b (order_back cmp a (p ∷ b) s) e);
  }

  pub gap_right : (a : List (K × V)) (p : K × V) (b : List (K × V)) (key : K) (i : ℕ) → AreInOrder cmp (a ++ p ∷ b) → cmp key p.0 ≡ Greater → IsGap cmp b key i → IsGap cmp (a ++ p ∷ b) key (length a + 1 + i)
  gap_right a p b key i s e g = record {
    before = a ++ p ∷ g.before;
    behind = g.behind;
    split = ap (λ z. a ++ p ∷ z) g.split ∙ sym (append_assoc a (p ∷ g.before) g.behind);
    place = length-append a (p ∷ g.before) ∙ omega (arith, g.place);
    lower = all_append _ a (p ∷ g.before) (lower_front key a p b s (above_from_greater o key p.0 e)) (e, g.lower);
    higher = g.higher;
  }

  pub at_left : (a : List (K × V)) (p : K × V) (b : List (K × V)) (key : K) (i : ℕ) → AreInOrder cmp (a ++ p ∷ b) → cmp key p.0 ≡ Less → IsAt cmp a key i → IsAt cmp (a ++ p ∷ b) key i
  at_left a p b key i s e g = record {
    before = g.before;
    pair = g.pair;
    behind = g.behind ++ p ∷ b;
    split = ap (λ z. z ++ p ∷ b) g.split ∙ append_assoc g.before (g.pair ∷ g.behind) (p ∷ b);
    place = g.place;
    lower = g.lower;
    equal = g.equal;
  }

  pub at_right : (a : List (K × V)) (p : K × V) (b : List (K × V)) (key : K) (i : ℕ) → AreInOrder cmp (a ++ p ∷ b) → cmp key p.0 ≡ Greater → IsAt cmp b key i → IsAt cmp (a ++ p ∷ b) key (length a + 1 + i)
  at_right a p b key i s e g = record {
    before = a ++ p ∷ g.before;
    pair = g.pair;
    behind = g.behind;
    split = ap (λ z. a ++ p ∷ z) g.split ∙ sym (append_assoc a (p ∷ g.before) (g.pair ∷ g.behind));
    place = length-append a (p ∷ g.before) ∙ omega (arith, g.place);
    lower = all_append _ a (p ∷ g.before) (lower_front key a p b s (above_from_greater o key p.0 e)) (e, g.lower);
    equal = g.equal;
  }

  pub at_middle : (a : List (K × V)) (p : K × V) (b : List (K × V)) (key : K) → AreInOrder cmp (a ++ p ∷ b) → cmp key p.0 ≡ Equal → IsAt cmp (a ++ p ∷ b) key (length a)
  at_middle a p b key s e = record { before = a; pair = p; behind = b; split = refl; place = refl; lower = lower_front key a p b s (above_from_equal o key p.0 e); equal = e }

  -- with a pair between the lower and the higher keys
  pub order_between : (a b : List (K × V)) (key : K) (value : V) → AreInOrder cmp (a ++ b) → AllByRecursion (λ q. cmp key q.0 ≡ Greater) a → AllByRecursion (λ q. cmp key q.0 ≡ Less) b → AreInOrder cmp (a ++ (key, value) ∷ b)
  order_between [] b key value s lower higher = order_cons cmp (key, value) b (all_keys _ b higher) s
  order_between (q ∷ a) b key value s lower higher =
      let h = order_head cmp q (a ++ b) s in
      order_cons cmp q (a ++ (key, value) ∷ b) (keys_append _ a ((key, value) ∷ b) (keys_front _ a b h) (turned o key q.0 Greater lower.0, keys_back _ a b h))
      (order_between a b key value (order_tail cmp q (a ++ b) s) lower.1 higher)

  -- with a pair in place of one with an equal key
  pub order_instead : (a : List (K × V)) (p : K × V) (b : List (K × V)) (key : K) (value : V) → AreInOrder cmp (a ++ p ∷ b) → cmp key p.0 ≡ Equal → AreInOrder cmp (a ++ (key, value) ∷ b)
  order_instead [] p b key value s e =
      order_cons cmp (key, value) b (all_each (λ y. cmp p.0 y ≡ Less) (λ y. cmp key y ≡ Less) (λ y h. o.congr key p.0 y e ∙ h) (keys_of b) (order_head cmp p b s)) (order_tail cmp p b s)
  order_instead (q ∷ a) p b key value s e =
      let h = order_head cmp q (a ++ p ∷ b) s in
      let k : AllByRecursion (λ y. cmp q.0 y ≡ Less) (keys_of (p ∷ b)) = keys_back _ a (p ∷ b) h in
      order_cons cmp q (a ++ (key, value) ∷ b) (keys_append _ a ((key, value) ∷ b) (keys_front _ a (p ∷ b) h) (alike_right o key p.0 q.0 e ∙ k.0, k.1))
      (order_instead a p b key value (order_tail cmp q (a ++ p ∷ b) s) e)

module _ {K V : Type 0} {cmp : K → K → Ordering} where
  -- the place is one of the list, or its end
  pub at_below : (items : List (K × V)) (key : K) (i : ℕ) → IsAt cmp items key i → i < length items
  at_below items key i g = omega (arith, ap length g.split, length-append g.before (g.pair ∷ g.behind), g.place)

  pub gap_within : (items : List (K × V)) (key : K) (i : ℕ) → IsGap cmp items key i → i ≤ length items
  gap_within items key i g = omega (arith, ap length g.split, length-append g.before g.behind, g.place)

module _ {K V : Type 0} (cmp : K → K → Ordering) (P : K → Type 0) (key : K) where
  all_with : (value : V) (ps : List (K × V)) → P key → AllByRecursion P (keys_of ps) → AllByRecursion P (keys_of (with_pair cmp ps key value))
  all_with value [] h a = (h, tt)
  all_with value (p ∷ ps) h a =
      elim (cmp key p.0) as (λ r. AllByRecursion P (keys_of (match_ordering r ((key, value) ∷ p ∷ ps) ((key, value) ∷ ps) (p ∷ with_pair cmp ps key value)))) [
        | Less ↦ (h, a)
        | Equal ↦ (h, a.1)
        | Greater ↦ (a.0, all_with value ps h a.1)
      ]

  all_without : (ps : List (K × V)) → AllByRecursion P (keys_of ps) → AllByRecursion P (keys_of (without_key cmp ps key))
  all_without [] a = tt
  all_without (p ∷ ps) a =
      elim (is_eq (cmp key p.0)) as (λ t. AllByRecursion P (keys_of (cond t ps (p ∷ without_key cmp ps key)))) [
        | true ↦ a.1
        | false ↦ (a.0, all_without ps a.1)
      ]

module _ {K V : Type 0} {cmp : K → K → Ordering} (o : IsTotalOrder cmp) where
  pub order_with : (ps : List (K × V)) (key : K) (value : V) → AreInOrder cmp ps → AreInOrder cmp (with_pair cmp ps key value)
  order_with [] key value s = order_cons cmp (key, value) [] tt s
  order_with (p ∷ ps) key value s =
      elim (cmp key p.0) as (λ r. cmp key p.0 ≡ r → AreInOrder cmp (match_ordering r ((key, value) ∷ p ∷ ps) ((key, value) ∷ ps) (p ∷ with_pair cmp ps key value))) [
        | Less ↦ λ e. order_between o [] (p ∷ ps) key value s tt (higher_back o key p ps s e)
        | Equal ↦ λ e. order_instead o [] p ps key value s e
        | Greater ↦ λ e. order_cons cmp p (with_pair cmp ps key value) (all_with cmp (λ y. cmp p.0 y ≡ Less) key value ps (turned o key p.0 Greater e) (order_head cmp p ps s)) (order_with ps key value (order_tail cmp p ps s))
      ] refl

  pub order_without_key : (ps : List (K × V)) (key : K) → AreInOrder cmp ps → AreInOrder cmp (without_key cmp ps key)
  order_without_key [] key s = s
  order_without_key (p ∷ ps) key s =
      elim (is_eq (cmp key p.0)) as (λ t. AreInOrder cmp (cond t ps (p ∷ without_key cmp ps key))) [
        | true ↦ order_tail cmp p ps s
        | false ↦ order_cons cmp p (without_key cmp ps key) (all_without cmp (λ y. cmp p.0 y ≡ Less) key ps (order_head cmp p ps s)) (order_without_key ps key (order_tail cmp p ps s))
      ]
