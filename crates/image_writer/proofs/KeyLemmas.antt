-- Lists of values under keys that come once each, whose order changes.
use Rattle.std.proofs.Common.{◌≡◌, ◌≢◌, ◌+◌, ◌<◌, Bool, true, false, cond, List, [], ◌∷◌, length, map, get_or, refl, sym, ap, subst, ◌∙◌, arith, true≢false}
use Rattle.std.specs.Prelude.{◌||◌}
use Rattle.std.specs.Cmp.{IsTotalOrder}
use Rattle.std.specs.List.{AllByRecursion, IsDistinct, list_any}
use Rattle.std.specs.List.Sorted.{IsPermutation, IsSortedByKey, IsStrictlySortedBy}
use Rattle.std.specs.Ordering.{is_lt, is_eq, ordering_reverse}
use Rattle.std.specs.declared.cmp.Ordering.{Ordering}
use Rattle.std.specs.declared.cmp.Ordering.TheVariants.{Less, Equal, Greater}
use Rattle.std.proofs.Math.ListN.{get_or-map, length-map}
use Rattle.std.proofs.lemmas.List.Elements.{All-from_recursion, recursion_from_All}
use Rattle.std.proofs.lemmas.List.Sorted.{All-permutation, IsPermutation-map, list_any-IsPermutation}
use Rattle.std.proofs.lemmas.Map.Keys.{apart_from_distinct, sorted_from_all_adjacent}
use Rattle.image_grammar.proofs.KeyedLaws.{Keyed, lists, Apart, StandIn, each_listed}

-- ---- keys that are in order and differ rise

module _ {K : Type 0} (cmp : K → K → Ordering) (total : IsTotalOrder cmp) (same : K → K → Bool) (ties : (a b : K) → is_eq (cmp a b) ≡ same a b) where
  rises : (o back : Ordering) → o ≡ ordering_reverse back → is_lt back ≡ false → is_eq o ≡ false → o ≡ Less
  rises Less back e low other = refl
  rises Equal back e low other = absurd (true≢false other)
  rises Greater Less e low other = absurd (true≢false low)
  rises Greater Equal e low other = absurd cc
  rises Greater Greater e low other = absurd cc

  pub strictly : {X : Type 0} (key : X → K) (xs : List X) → IsSortedByKey key cmp xs → IsDistinct same (map key xs) → IsStrictlySortedBy cmp (map key xs)
  unfolding IsStrictlySortedBy
  strictly key [] sorted distinct = tt
  strictly {X = X} key (x ∷ xs) sorted distinct =
      let all : List X = x ∷ xs in
      let keys : List K = map key all in
      sorted_from_all_adjacent total keys (key x)
      (λ k within.
      let short : k + 1 < length all = subst (λ n. k + 1 < n) (length-map all key) within in
      let first : get_or keys k (key x) ≡ key (get_or all k x) = get_or-map key all k x in
      let next : get_or keys (k + 1) (key x) ≡ key (get_or all (k + 1) x) = get_or-map key all (k + 1) x in
      rises (cmp (get_or keys k (key x)) (get_or keys (k + 1) (key x))) (cmp (get_or keys (k + 1) (key x)) (get_or keys k (key x)))
      (total.antisymm (get_or keys k (key x)) (get_or keys (k + 1) (key x)))
      (ap (λ a. is_lt (cmp a (get_or keys k (key x)))) next ∙ ap (λ a. is_lt (cmp (key (get_or all (k + 1) x)) a)) first ∙ sorted k x (omega arith) short)
      (ties (get_or keys k (key x)) (get_or keys (k + 1) (key x)) ∙ apart_from_distinct same keys k (k + 1) (key x) distinct (omega arith) within))

-- ---- what is listed

module _ {K V X : Type 0} (l : Keyed K V X) where
  all_apart : (k : K) (xs : List X) → AllByRecursion (λ q. l.same k q ≡ false) (map l.key xs) → AllByRecursion (λ y. k ≢ l.key y) xs
  all_apart k [] apart = tt
  all_apart k (x ∷ xs) apart = ((λ e. true≢false (sym ((l.decides k (l.key x)).1 e) ∙ apart.0)), all_apart k xs apart.1)

  pub distinct_apart : (xs : List X) → IsDistinct l.same (map l.key xs) → Apart l xs
  unfolding IsDistinct
  distinct_apart [] distinct = tt
  distinct_apart (x ∷ xs) distinct = (all_apart (l.key x) xs distinct.0, distinct_apart xs distinct.1)

  abbrev keyed : List X → K → Bool
  keyed xs k = list_any (λ q. l.same k q) (map l.key xs)

  flip : (a b : K) → l.same a b ≡ true → l.same b a ≡ true
  flip a b e = (l.decides b a).1 (sym ((l.decides a b).0 e))

  no_key : (xs : List X) (k : K) → keyed xs k ≡ false → lists l xs k ≡ l.none
  no_key [] k e = refl
  no_key (x ∷ xs) k e = by (l.same k (l.key x)) (l.same (l.key x) k) refl refl e (no_key xs k)
    where
      by : (b c : Bool) → l.same k (l.key x) ≡ b → l.same (l.key x) k ≡ c → (b || keyed xs k) ≡ false → (keyed xs k ≡ false → lists l xs k ≡ l.none) → cond c (l.value x) (lists l xs k) ≡ l.none
      by true c is is' none rest = absurd (true≢false none)
      by false true is is' none rest = absurd (true≢false (sym (flip (l.key x) k is') ∙ is))
      by false false is is' none rest = rest none

  -- two functions that have each value at its key agree at the keys
  agree : (f g : K → V) (xs : List X) → StandIn l f xs → StandIn l g xs → (k : K) → keyed xs k ≡ true → f k ≡ g k
  agree f g [] left right k e = absurd (true≢false (sym e))
  agree f g (x ∷ xs) left right k e = by (l.same k (l.key x)) refl e (agree f g xs left.1 right.1 k)
    where
      by : (b : Bool) → l.same k (l.key x) ≡ b → (b || keyed xs k) ≡ true → (keyed xs k ≡ true → f k ≡ g k) → f k ≡ g k
      by true is any rest =
          let it : k ≡ l.key x = (l.decides k (l.key x)).0 is in
          ap f it ∙ left.0 ∙ sym right.0 ∙ ap g (sym it)
      by false is any rest = rest any

  -- in another order the same is listed
  pub listed_in_order : (xs ys : List X) → IsPermutation xs ys → Apart l xs → Apart l ys → (k : K) → lists l ys k ≡ lists l xs k
  listed_in_order xs ys moved apart apart' k = by (keyed ys k) refl
    where
      by : (b : Bool) → keyed ys k ≡ b → lists l ys k ≡ lists l xs k
      by true e =
          agree (lists l ys) (lists l xs) ys (each_listed l ys apart')
          (recursion_from_All (λ x. lists l xs (l.key x) ≡ l.value x) ys
          (All-permutation (λ x. lists l xs (l.key x) ≡ l.value x) xs ys moved (All-from_recursion (λ x. lists l xs (l.key x) ≡ l.value x) xs (each_listed l xs apart)))) k e
      by false e =
          let other : keyed xs k ≡ false = list_any-IsPermutation (λ q. l.same k q) (map l.key xs) (map l.key ys) (IsPermutation-map l.key xs ys moved) ∙ e in
          no_key ys k e ∙ sym (no_key xs k other)
