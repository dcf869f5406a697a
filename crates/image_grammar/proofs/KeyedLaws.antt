-- Lists of values under keys that come once each: what they list tells which values they have.
use Rattle.std.proofs.Common.{◌≡◌, ◌≢◌, ℕ, ◌+◌, Bool, true, false, cond, List, [], ◌∷◌, length, map, refl, sym, ap, ◌∙◌, arith, true≢false, length-append}
use Rattle.std.specs.Prelude.{◌||◌, not}
use Rattle.std.specs.Bool.{Decides}
use Rattle.std.specs.List.{AllByRecursion, list_any, filter, flat_map}
use Rattle.chain_names.specs.Points.{changed}
use Rattle.image_grammar.proofs.ListedLaws.{AreApart}

-- the sum over a list
abbrev pub total : {X : Type 0} → (X → ℕ) → List X → ℕ
total f [] = 0
total f (x ∷ xs) = f x + total f xs

pub total-flat_map : {X : Type 0} (text : X → List ℕ) (xs : List X) → length (flat_map text xs) ≡ total (λ x. length (text x)) xs
total-flat_map text [] = refl
total-flat_map text (x ∷ xs) = length-append (text x) (flat_map text xs) ∙ ap (λ n. length (text x) + n) (total-flat_map text xs)

-- what stands under which key, and the value where nothing stands
pub record Keyed (K V X : Type 0) : Type 0 where
  pub same : K → K → Bool
  pub decides : (a b : K) → Decides (same a b) (a ≡ b)
  pub key : X → K
  pub value : X → V
  pub none : V
  pub is_some : V → Bool
  pub is_none : is_some none ≡ false
  pub one : (x y : X) → key x ≡ key y → value x ≡ value y → x ≡ y

module _ {K V X : Type 0} (l : Keyed K V X) where
  -- the function that a list gives, the first outermost
  abbrev pub lists : List X → K → V
  lists [] = λ k. l.none
  lists (x ∷ xs) = changed l.same (lists xs) (l.key x) (l.value x)

  abbrev pub Apart : List X → Type 0
  Apart xs = AreApart l.decides l.key l.value xs

  -- each value is one
  abbrev pub AreSome : List X → Type 0
  AreSome xs = AllByRecursion (λ x. l.is_some (l.value x) ≡ true) xs

  -- the function has each value at its key
  abbrev pub StandIn : (K → V) → List X → Type 0
  StandIn f xs = AllByRecursion (λ x. f (l.key x) ≡ l.value x) xs

  not_same : (a b : K) → a ≢ b → l.same a b ≡ false
  not_same a b apart = by (l.same a b) refl
    where
      by : (x : Bool) → l.same a b ≡ x → x ≡ false
      by true e = absurd (apart ((l.decides a b).0 e))
      by false e = refl

  itself : (a : K) → l.same a a ≡ true
  itself a = (l.decides a a).1 refl

  -- ---- what is listed

  -- nothing at a key that is apart from all
  unlisted : (xs : List X) (k : K) → AllByRecursion (λ y. k ≢ l.key y) xs → lists xs k ≡ l.none
  unlisted [] k apart = refl
  unlisted (x ∷ xs) k apart = by (unlisted xs k apart.1) (l.same (l.key x) k) refl
    where
      by : lists xs k ≡ l.none → (b : Bool) → l.same (l.key x) k ≡ b → cond b (l.value x) (lists xs k) ≡ l.none
      by rest true e = absurd (apart.0 (sym ((l.decides (l.key x) k).0 e)))
      by rest false e = rest

  first_listed : (x : X) (xs : List X) → lists (x ∷ xs) (l.key x) ≡ l.value x
  first_listed x xs = ap (λ b. cond b (l.value x) (lists xs (l.key x))) (itself (l.key x))

  later_listed : (x : X) (xs : List X) (k : K) → l.same (l.key x) k ≡ false → lists (x ∷ xs) k ≡ lists xs k
  later_listed x xs k e = ap (λ b. cond b (l.value x) (lists xs k)) e

  still_listed : (x : X) (xs ys : List X) → AllByRecursion (λ y. l.key x ≢ l.key y) ys → StandIn (lists xs) ys → StandIn (lists (x ∷ xs)) ys
  still_listed x xs [] apart stand = tt
  still_listed x xs (y ∷ ys) apart stand =
      (later_listed x xs (l.key y) (not_same (l.key x) (l.key y) apart.0) ∙ stand.0, still_listed x xs ys apart.1 stand.1)

  -- each value is listed at its key
  pub each_listed : (xs : List X) → Apart xs → StandIn (lists xs) xs
  each_listed [] apart = tt
  each_listed (x ∷ xs) apart = (first_listed x xs, still_listed x xs xs apart.0 (each_listed xs apart.1))

  abbrev has_key : List X → K → Bool
  has_key xs k = list_any (λ q. l.same k q) (map l.key xs)

  flipped : (a b : K) → l.same a b ≡ l.same b a
  flipped a b = by (l.same a b) (l.same b a) refl refl
    where
      by : (x y : Bool) → l.same a b ≡ x → l.same b a ≡ y → x ≡ y
      by true true e e' = refl
      by true false e e' = absurd (true≢false (sym ((l.decides b a).1 (sym ((l.decides a b).0 e))) ∙ e'))
      by false true e e' = absurd (true≢false (sym ((l.decides a b).1 (sym ((l.decides b a).0 e'))) ∙ e))
      by false false e e' = refl

  -- the keys are where something is listed
  pub has_key_listed : (xs : List X) → AreSome xs → (k : K) → has_key xs k ≡ l.is_some (lists xs k)
  has_key_listed [] some k = sym l.is_none
  has_key_listed (x ∷ xs) some k = by (has_key_listed xs some.1 k) (l.same (l.key x) k) (l.same k (l.key x)) refl (flipped k (l.key x))
    where
      by : has_key xs k ≡ l.is_some (lists xs k) → (b c : Bool) → l.same (l.key x) k ≡ b → c ≡ l.same (l.key x) k → (c || has_key xs k) ≡ l.is_some (cond b (l.value x) (lists xs k))
      by rest true true e e' = sym some.0
      by rest true false e e' = absurd (true≢false (sym e ∙ sym e'))
      by rest false true e e' = absurd (true≢false (e' ∙ e))
      by rest false false e e' = rest

  -- ---- lists with the same keys

  pub one_by_keys : (f : K → V) (xs ys : List X) → StandIn f xs → StandIn f ys → map l.key xs ≡ map l.key ys → xs ≡ ys
  one_by_keys f [] [] left right e = refl
  one_by_keys f [] (y ∷ ys) left right e = absurd cc
  one_by_keys f (x ∷ xs) [] left right e = absurd cc
  one_by_keys f (x ∷ xs) (y ∷ ys) left right e =
      let key : l.key x ≡ l.key y = cc in
      let keys : map l.key xs ≡ map l.key ys = cc in
      let first : x ≡ y = l.one x y key (sym left.0 ∙ ap f key ∙ right.0) in
      let rest : xs ≡ ys = one_by_keys f xs ys left.1 right.1 keys in
      λ i. first i ∷ rest i

  -- ---- sums over lists that list the same

  -- the values at other keys
  abbrev without : K → List X → List X
  without k xs = filter (λ y. not (l.same k (l.key y))) xs

  none_without : (k : K) (xs : List X) → lists (without k xs) k ≡ l.none
  none_without k [] = refl
  none_without k (x ∷ xs) = by (none_without k xs) (l.same k (l.key x)) refl
    where
      by : lists (without k xs) k ≡ l.none → (b : Bool) → l.same k (l.key x) ≡ b → lists (cond (not b) (x ∷ without k xs) (without k xs)) k ≡ l.none
      by rest true e = rest
      by rest false e = later_listed x (without k xs) k (flipped (l.key x) k ∙ e) ∙ rest

  still_without : (k q : K) (xs : List X) → l.same k q ≡ false → lists (without k xs) q ≡ lists xs q
  still_without k q [] other = refl
  still_without k q (x ∷ xs) other = by (still_without k q xs other) (l.same k (l.key x)) (l.same (l.key x) q) refl refl
    where
      by : lists (without k xs) q ≡ lists xs q → (b c : Bool) → l.same k (l.key x) ≡ b → l.same (l.key x) q ≡ c → lists (cond (not b) (x ∷ without k xs) (without k xs)) q ≡ cond c (l.value x) (lists xs q)
      by rest true true e e' = absurd (true≢false (sym ((l.decides k q).1 ((l.decides k (l.key x)).0 e ∙ (l.decides (l.key x) q).0 e')) ∙ other))
      by rest true false e e' = rest
      by rest false true e e' = ap (λ b. cond b (l.value x) (lists (without k xs) q)) e'
      by rest false false e e' = ap (λ b. cond b (l.value x) (lists (without k xs) q)) e' ∙ rest

  all_without : (P : X → Type 0) (k : K) (xs : List X) → AllByRecursion P xs → AllByRecursion P (without k xs)
  all_without P k [] all = tt
  all_without P k (x ∷ xs) all = by (all_without P k xs all.1) (l.same k (l.key x))
    where
      by : AllByRecursion P (without k xs) → (b : Bool) → AllByRecursion P (cond (not b) (x ∷ without k xs) (without k xs))
      by rest true = rest
      by rest false = (all.0, rest)

  apart_without : (k : K) (xs : List X) → Apart xs → Apart (without k xs)
  apart_without k [] apart = tt
  apart_without k (x ∷ xs) apart = by (apart_without k xs apart.1) (l.same k (l.key x))
    where
      by : Apart (without k xs) → (b : Bool) → Apart (cond (not b) (x ∷ without k xs) (without k xs))
      by rest true = rest
      by rest false = (all_without (λ y. l.key x ≢ l.key y) k xs apart.0, rest)

  same_without : (k : K) (xs : List X) → AllByRecursion (λ y. k ≢ l.key y) xs → without k xs ≡ xs
  same_without k [] apart = refl
  same_without k (x ∷ xs) apart =
      ap (λ b. cond (not b) (x ∷ without k xs) (without k xs)) (not_same k (l.key x) apart.0) ∙ ap (λ ys. x ∷ ys) (same_without k xs apart.1)

  module _ (f : X → ℕ) where
    -- what is listed at a key, and the rest
    taken_out : (x : X) (ys : List X) → Apart ys → l.is_some (l.value x) ≡ true → lists ys (l.key x) ≡ l.value x → total f ys ≡ f x + total f (without (l.key x) ys)
    taken_out x [] apart some here = absurd (true≢false (sym some ∙ ap l.is_some (sym here) ∙ l.is_none))
    taken_out x (y ∷ ys) apart some here = by (taken_out x ys apart.1 some) (l.same (l.key x) (l.key y)) refl
      where
        by : (lists ys (l.key x) ≡ l.value x → total f ys ≡ f x + total f (without (l.key x) ys)) → (b : Bool) → l.same (l.key x) (l.key y) ≡ b → f y + total f ys ≡ f x + total f (cond (not b) (y ∷ without (l.key x) ys) (without (l.key x) ys))
        by rest true e =
            let key : l.key x ≡ l.key y = (l.decides (l.key x) (l.key y)).0 e in
            let it : x ≡ y = l.one x y key (sym here ∙ ap (lists (y ∷ ys)) key ∙ first_listed y ys) in
            let all : without (l.key x) ys ≡ ys = ap (λ k. without k ys) key ∙ same_without (l.key y) ys apart.0 in
            ap (λ z. f z + total f ys) (sym it) ∙ ap (λ zs. f x + total f zs) (sym all)
        by rest false e =
            let there : lists ys (l.key x) ≡ l.value x = sym (later_listed y ys (l.key x) (flipped (l.key y) (l.key x) ∙ e)) ∙ here in
            let moved : f y + total f ys ≡ f x + (f y + total f (without (l.key x) ys)) = omega (arith, rest there) in
            moved

    pub same_sum : (xs ys : List X) → Apart xs → Apart ys → AreSome xs → AreSome ys → ((k : K) → lists xs k ≡ lists ys k) → total f xs ≡ total f ys
    same_sum [] [] apart apart' some some' same = refl
    same_sum [] (y ∷ ys) apart apart' some some' same =
        absurd (true≢false (sym some'.0 ∙ ap l.is_some (sym (first_listed y ys) ∙ sym (same (l.key y))) ∙ l.is_none))
    same_sum (x ∷ xs) ys apart apart' some some' same =
        let k : K = l.key x in
        let here : lists ys k ≡ l.value x = sym (same k) ∙ first_listed x xs in
        let rest : total f xs ≡ total f (without k ys) =
        same_sum xs (without k ys) apart.1 (apart_without k ys apart') some.1 (all_without (λ y. l.is_some (l.value y) ≡ true) k ys some') (λ q. by q (l.same k q) refl) in
        ap (λ n. f x + n) rest ∙ sym (taken_out x ys apart' some.0 here)
      where
        by : (q : K) (b : Bool) → l.same (l.key x) q ≡ b → lists xs q ≡ lists (without (l.key x) ys) q
        by q true e =
            let it : l.key x ≡ q = (l.decides (l.key x) q).0 e in
            ap (lists xs) (sym it) ∙ unlisted xs (l.key x) apart.0 ∙ sym (none_without (l.key x) ys) ∙ ap (lists (without (l.key x) ys)) it
        by q false e = sym (later_listed x xs q e) ∙ same q ∙ sym (still_without (l.key x) q ys e)
