-- A search that narrows down: what is before is lower, and what is behind higher.
use Rattle.std.proofs.Common.{◌≡◌, ℕ, ◌+◌, List, [], ◌∷◌, ◌++◌, length, take, drop, refl, sym, ap, ◌∙◌, subst, append_assoc, append-nil, length-append, take-append-drop, arith}
use Rattle.std.specs.Cmp.{IsTotalOrder}
use Rattle.std.specs.List.{AllByRecursion}
use Rattle.std.specs.declared.cmp.Ordering.{Ordering}
use Rattle.std.specs.declared.cmp.Ordering.TheVariants.{Less, Equal, Greater}
use Rattle.shared_chunks.specs.Pairs.{AreInOrder, IsAt, IsGap}
use Rattle.shared_chunks.proofs.Order.{all_append, above_from_greater, at_middle, higher_back, lower_front, order_back}

-- a list that is cut before an item
pub cut : {X : Type 0} (rest front back more : List X) (mid : ℕ) (x : X) → front ≡ take mid rest → back ≡ drop mid rest → back ≡ x ∷ more → rest ≡ front ++ x ∷ more
cut rest front back more mid x e f g = sym (take-append-drop mid rest) ∙ ap (λ z. z ++ drop mid rest) (sym e) ∙ ap (λ z. front ++ z) (sym f ∙ g)

pub record Between {K V : Type 0} (cmp : K → K → Ordering) (items : List (K × V)) (key : K) (rest : List (K × V)) (low : ℕ) : Type 0 where
  pub before : List (K × V)
  pub behind : List (K × V)
  pub split : items ≡ before ++ (rest ++ behind)
  pub place : length before ≡ low
  pub lower : AllByRecursion (λ p. cmp key p.0 ≡ Greater) before
  pub higher : AllByRecursion (λ p. cmp key p.0 ≡ Less) behind

module _ {K V : Type 0} {cmp : K → K → Ordering} where
  pub all_of : (items : List (K × V)) (key : K) → Between cmp items key items 0
  all_of items key = record { before = []; behind = []; split = sym (append-nil items); place = refl; lower = tt; higher = tt }

  pub gap_of : (items : List (K × V)) (key : K) (low : ℕ) → Between cmp items key [] low → IsGap cmp items key low
  gap_of items key low b = record { before = b.before; behind = b.behind; split = b.split; place = b.place; lower = b.lower; higher = b.higher }

module _ {K V : Type 0} {cmp : K → K → Ordering} (o : IsTotalOrder cmp) where
  -- the items around the pair in the middle of what is left
  around : (items front : List (K × V)) (p : K × V) (more before behind : List (K × V)) → items ≡ before ++ ((front ++ p ∷ more) ++ behind) → items ≡ (before ++ front) ++ p ∷ (more ++ behind)
  around items front p more before behind e =
      e ∙ ap (λ z. before ++ z) (append_assoc front (p ∷ more) behind) ∙ sym (append_assoc before front (p ∷ (more ++ behind)))

  -- what is left is cut in front of a pair
  module _ (rest front : List (K × V)) (p : K × V) (more : List (K × V)) (cut_is : rest ≡ front ++ p ∷ more) where
    between_cut : (items : List (K × V)) (key : K) (low : ℕ) → Between cmp items key rest low → Between cmp items key (front ++ p ∷ more) low
    between_cut items key low between = subst (λ (z : List (K × V)). Between cmp items key z low) cut_is between

    pub go_left : (items : List (K × V)) (key : K) (low : ℕ) → AreInOrder cmp items → Less ≡ cmp key p.0 → Between cmp items key rest low → Between cmp items key front low
    go_left items key low s less between =
        let e = sym less in
        let b = between_cut items key low between in
        let a = around items front p more b.before b.behind b.split in
        record {
          before = b.before;
          behind = p ∷ (more ++ b.behind);
          split = a ∙ append_assoc b.before front (p ∷ (more ++ b.behind));
          place = b.place;
          lower = b.lower;
          higher = higher_back o key p (more ++ b.behind) (order_back cmp (b.before ++ front) (p ∷ (more ++ b.behind)) (subst (AreInOrder cmp) a s)) e;
        }

    pub go_right : (items : List (K × V)) (key : K) (low : ℕ) → AreInOrder cmp items → Greater ≡ cmp key p.0 → Between cmp items key rest low → Between cmp items key more (low + length front + 1)
    go_right items key low s greater between =
        let e = sym greater in
        let b = between_cut items key low between in
        let a = around items front p more b.before b.behind b.split in
        record {
          before = (b.before ++ front) ++ p ∷ [];
          behind = b.behind;
          split = a ∙ sym (append_assoc (b.before ++ front) (p ∷ []) (more ++ b.behind));
          place = omega (arith, length-append (b.before ++ front) (p ∷ []), length-append b.before front, b.place);
          lower = all_append _ (b.before ++ front) (p ∷ []) (lower_front o key (b.before ++ front) p (more ++ b.behind) (subst (AreInOrder cmp) a s) (above_from_greater o key p.0 e)) (e, tt);
          higher = b.higher;
        }

    pub stop_at : (items : List (K × V)) (key : K) (low : ℕ) → AreInOrder cmp items → Equal ≡ cmp key p.0 → Between cmp items key rest low → IsAt cmp items key (low + length front)
    stop_at items key low s equal between =
        let e = sym equal in
        let b = between_cut items key low between in
        let a = around items front p more b.before b.behind b.split in
        let there = at_middle o (b.before ++ front) p (more ++ b.behind) key (subst (AreInOrder cmp) a s) e in
        let count : length (b.before ++ front) ≡ low + length front = omega (arith, length-append b.before front, b.place) in
        subst (λ (z : ℕ). IsAt cmp items key z) count (subst (λ (z : List (K × V)). IsAt cmp z key (length (b.before ++ front))) (sym a) there)
