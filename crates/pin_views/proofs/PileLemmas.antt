-- A node with an item placed on its left, in its middle, on its right, or behind all.
use Rattle.std.proofs.Common.{◌≡◌, ℕ, ◌+◌, ◌-◌, ◌^◌, ◌<◌, ◌≤◌, List, [], ◌∷◌, ◌++◌, length, length-append, refl, sym, ap, ◌∙◌, subst, inl, inr, arith}
use Rattle.std.proofs.lemmas.Bool.{cases_lt}
use Rattle.pin_views.specs.Nodes.{IsFilled}
use Rattle.pin_views.specs.Piles.{Heap, Places, empty, joined, placed}
use Rattle.pin_views.specs.declared.pile.Node.{Node}
use Rattle.pin_views.proofs.Placed.{length_within, placed_last, placed_left, placed_middle, placed_right}

-- the same, said of equal piles
pub moved : {T : Type 0} (old same_old new same_new : Heap T) (i : ℕ) (item : T) → same_old ≡ old → new ≡ same_new → Places same_old same_new i item → Places old new i item
moved {T} old same_old new same_new i item a b p = subst (λ (o : Heap T). Places o new i item) a (subst (λ (q : Heap T). Places same_old q i item) (sym b) p)

module _ {T : Type 0} (n : Node T) (fit : IsFilled n) (i : ℕ) (item : T) where
  pub sizes : length (n.left.items ++ n.item.value ∷ n.right.items) ≡ n.size
  sizes = omega (arith, fit.size, length-append n.left.items (n.item.value ∷ n.right.items))

  pub behind_all : i ≡ n.size → Places (joined n.left n.item.value n.right) (joined (joined n.left n.item.value n.right) item empty) i item
  behind_all e = record {
    items = sym (ap (λ (k : ℕ). placed (n.left.items ++ n.item.value ∷ n.right.items) k item) (e ∙ sym sizes) ∙ placed_last (n.left.items ++ n.item.value ∷ n.right.items) item);
    depth = λ h. absurd (omega (arith, h, e, sizes));
  }

  module _ (left : Heap T) (h : i < n.before) (p : Places n.left left i item) where
    within : i < length n.left.items
    within = omega (arith, h, fit.before)

    same : length left.items ≡ length n.left.items
    same = ap length p.items ∙ length_within n.left.items i item within

    pub on_left : Places (joined n.left n.item.value n.right) (joined left n.item.value n.right) i item
    on_left = record {
      items = ap (λ (xs : List T). xs ++ n.item.value ∷ n.right.items) p.items ∙ sym (placed_left n.left.items n.item.value n.right.items i item within);
      depth = λ k. ap (λ (d : ℕ). d + 1) (p.depth within);
    }

    pub left_full : length left.items + 1 ≡ 2 ^ left.depth
    left_full = subst (λ (d : ℕ). length left.items + 1 ≡ 2 ^ d) (sym (p.depth within)) (ap (λ (k : ℕ). k + 1) same ∙ fit.full)

    pub left_fewer : length n.right.items ≤ length left.items
    left_fewer = subst (λ (k : ℕ). length n.right.items ≤ k) (sym same) fit.fewer

  pub in_middle : i ≡ n.before → Places (joined n.left n.item.value n.right) (joined n.left item n.right) i item
  in_middle e = record {
    items = sym (ap (λ (k : ℕ). placed (n.left.items ++ n.item.value ∷ n.right.items) k item) (e ∙ fit.before) ∙ placed_middle n.left.items n.item.value n.right.items item);
    depth = λ k. refl;
  }

  module _ (right : Heap T) (h : n.before < i) (p : Places n.right right (i - n.before - 1) item) where
    pub on_right : Places (joined n.left n.item.value n.right) (joined n.left n.item.value right) i item
    on_right = record {
      items = ap (λ (xs : List T). n.left.items ++ n.item.value ∷ xs) p.items
          ∙ ap (λ (k : ℕ). n.left.items ++ n.item.value ∷ placed n.right.items (i - k - 1) item) fit.before
          ∙ sym (placed_right n.left.items n.item.value n.right.items i item (omega (arith, h, fit.before)));
      depth = λ k. refl;
    }

    -- no longer than before, where it isn't behind the last
    pub right_same : i < n.size → length right.items ≡ length n.right.items
    right_same k = ap length p.items ∙ length_within n.right.items (i - n.before - 1) item (omega (arith, k, h, fit.before, fit.size))

    -- and else longer by one
    pub right_more : i ≡ n.size → length right.items ≡ length n.right.items + 1
    right_more e =
        let last : i - n.before - 1 ≡ length n.right.items = omega (arith, e, fit.before, fit.size) in
        ap length (p.items ∙ ap (λ (k : ℕ). placed n.right.items k item) last ∙ placed_last n.right.items item) ∙ length-append n.right.items (item ∷ [])
