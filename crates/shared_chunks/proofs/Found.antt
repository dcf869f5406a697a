-- What a map is at the place that a search found.
use Rattle.std.proofs.Common.{◌≡◌, ℕ, List, set, Some, None, sym, subst, ◌∙◌}
use Rattle.std.proofs.lemmas.List.{set_at}
use Rattle.std.specs.Cmp.{IsTotalOrder}
use Rattle.std.specs.List.{insert, remove, slice_get}
use Rattle.std.specs.declared.cmp.Ordering.{Ordering}
use Rattle.shared_chunks.specs.Pairs.{AreInOrder, IsAt, IsGap, value_at, with_pair, without_key}
use Rattle.shared_chunks.proofs.Order.{order_between, order_instead, order_without}
use Rattle.shared_chunks.proofs.Places.{insert_at, remove_at, slice_get_at, with_pair-gap, with_pair-at, value_at-gap, value_at-at, without_key-at, without_key-gap}

module _ {K V : Type 0} {cmp : K → K → Ordering} where
  pub at_value : (items : List (K × V)) (key : K) (i : ℕ) (p : K × V) → IsAt cmp items key i → Some p ≡ slice_get items i → Some p.1 ≡ value_at cmp items key
  at_value items key i p g e =
      let there : Some p ≡ Some g.pair = e ∙ rw g.split (slice_get_at g.before g.pair g.behind i g.place) in
      let same : p ≡ g.pair = cc there in
      rw (g.split, same) (sym (value_at-at cmp key g.before g.pair g.behind g.lower g.equal))

  pub at_some : (items : List (K × V)) (key : K) (i : ℕ) → IsAt cmp items key i → None ≡ slice_get items i → ⊥
  at_some items key i g e =
      let there : None ≡ Some g.pair = e ∙ rw g.split (slice_get_at g.before g.pair g.behind i g.place) in cc there

  pub at_found : (items : List (K × V)) (key : K) (i : ℕ) (g : IsAt cmp items key i) → value_at cmp items key ≡ Some g.pair.1
  at_found items key i g = rw g.split (value_at-at cmp key g.before g.pair g.behind g.lower g.equal)

  pub gap_value : (items : List (K × V)) (key : K) (i : ℕ) → IsGap cmp items key i → value_at cmp items key ≡ None
  gap_value items key i g = rw g.split (value_at-gap cmp key g.before g.behind g.lower g.higher)

  pub at_set : (items : List (K × V)) (key : K) (i : ℕ) (value : V) → IsAt cmp items key i → set items i (key, value) ≡ with_pair cmp items key value
  at_set items key i value g = rw g.split (set_at g.before g.pair g.behind (key, value) i g.place ∙ sym (with_pair-at cmp key g.before g.pair g.behind value g.lower g.equal))

  pub gap_set : (items : List (K × V)) (key : K) (i : ℕ) (value : V) → IsGap cmp items key i → insert items i (key, value) ≡ with_pair cmp items key value
  gap_set items key i value g = rw g.split (insert_at g.before g.behind (key, value) i g.place ∙ sym (with_pair-gap cmp key g.before g.behind value g.lower g.higher))

  -- the same, where the place was found in an equal list by an equal key
  module _ (seen items : List (K × V)) (k key : K) (same : seen ≡ items) (same_key : k ≡ key) (i : ℕ) (value : V) where
    pub at_set_there : IsAt cmp seen k i → set items i (key, value) ≡ with_pair cmp items key value
    at_set_there g = at_set items key i value (subst (λ (z : K). IsAt cmp items z i) same_key (subst (λ (z : List (K × V)). IsAt cmp z k i) same g))

    pub gap_set_there : (new : List (K × V)) → IsGap cmp seen k i → new ≡ insert items i (key, value) → new ≡ with_pair cmp items key value
    gap_set_there new g is =
        is ∙ gap_set items key i value (subst (λ (z : K). IsGap cmp items z i) same_key (subst (λ (z : List (K × V)). IsGap cmp z k i) same g))

  pub at_unset : (items : List (K × V)) (key : K) (i : ℕ) → IsAt cmp items key i → remove items i ≡ without_key cmp items key
  at_unset items key i g = rw g.split (remove_at g.before g.pair g.behind i g.place ∙ sym (without_key-at cmp key g.before g.pair g.behind g.lower g.equal))

  pub gap_unset : (items : List (K × V)) (key : K) (i : ℕ) → IsGap cmp items key i → items ≡ without_key cmp items key
  gap_unset items key i g = rw g.split (sym (without_key-gap cmp key g.before g.behind g.lower g.higher))

module _ {K V : Type 0} {cmp : K → K → Ordering} (o : IsTotalOrder cmp) where
  pub at_order_set : (items : List (K × V)) (key : K) (i : ℕ) (value : V) → AreInOrder cmp items → IsAt cmp items key i → AreInOrder cmp (set items i (key, value))
  at_order_set items key i value s g =
      let t = rw g.split at s in
      rw (g.split, set_at g.before g.pair g.behind (key, value) i g.place) (order_instead o g.before g.pair g.behind key value t g.equal)

  pub gap_order_set : (items : List (K × V)) (key : K) (i : ℕ) (value : V) → AreInOrder cmp items → IsGap cmp items key i → AreInOrder cmp (insert items i (key, value))
  gap_order_set items key i value s g =
      let t = rw g.split at s in
      rw (g.split, insert_at g.before g.behind (key, value) i g.place) (order_between o g.before g.behind key value t g.lower g.higher)

  pub at_order_unset : (items : List (K × V)) (key : K) (i : ℕ) → AreInOrder cmp items → IsAt cmp items key i → AreInOrder cmp (remove items i)
  at_order_unset items key i s g =
      let t = rw g.split at s in
      rw (g.split, remove_at g.before g.pair g.behind i g.place) (order_without cmp g.before g.pair g.behind t)
