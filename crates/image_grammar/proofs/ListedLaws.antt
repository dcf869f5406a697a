-- Functions given key by key: in which order is the same, where no key comes twice.
use Rattle.std.proofs.Common.{◌≡◌, ◌≢◌, ℕ, Bool, true, false, cond, List, [], ◌∷◌, refl, sym, ap, subst, ◌∙◌}
use Rattle.std.proofs.Math.Path.{fun_ext}
use Rattle.std.proofs.lemmas.Map.Text.{is_eq-slice_cmp}
use Rattle.std.proofs.lemmas.Slice.Eq.{bytes_eq-Decides}
use Rattle.std.specs.Bool.{Decides}
use Rattle.std.specs.Cmp.Lexicographic.{slice_cmp}
use Rattle.std.specs.List.{AllByRecursion}
use Rattle.std.specs.List.Sorted.{IsStrictlySortedBy}
use Rattle.std.specs.Ordering.{nat_cmp, is_eq}
use Rattle.std.specs.Prelude.{Some}
use Rattle.std.specs.declared.cmp.Ordering.TheVariants.{Less}
use Rattle.nmc_base.specs.declared.hashes.OutPoint.{OutPoint}
use Rattle.nmc_base.specs.Hash.{outpoint_cmp}
use Rattle.chain_names.specs.declared.coin.HeldCoin.{HeldCoin}
use Rattle.chain_names.specs.Expired.{IsSortedByPoint, points_of}
use Rattle.chain_names.specs.Points.{changed}
use Rattle.chain_names.proofs.Changed.{bytes_eq-self}
use Rattle.chain_names.proofs.OrderLemmas.{same_by_cmp}
use Rattle.chain_names.proofs.Points.{same_point-Decides, same_point-self}
use Rattle.chain_names.proofs.Shown.{true_is_not_false}
use Rattle.image_grammar.specs.Image.{History, names_of}

-- the later of two changes at one key
pub changed_twice : {K V : Type 0} (same : K → K → Bool) (f : K → V) (k : K) (v w : V) → changed same (changed same f k v) k w ≡ changed same f k w
changed_twice same f k v w = fun_ext (λ q. by q (same k q))
  where
    by : (q : _) (b : Bool) → cond b w (cond b v (f q)) ≡ cond b w (f q)
    by q true = refl
    by q false = refl

module _ {K V X : Type 0} {same : K → K → Bool} (decides : (a b : K) → Decides (same a b) (a ≡ b)) (key : X → K) (value : X → V) where
  -- one change after the other
  abbrev pub onto : (K → V) → List X → K → V
  onto f [] = f
  onto f (x ∷ xs) = onto (changed same f (key x) (value x)) xs

  -- the first outermost
  abbrev pub listed : (K → V) → List X → K → V
  listed f [] = f
  listed f (x ∷ xs) = changed same (listed f xs) (key x) (value x)

  abbrev pub AreApart : List X → Type 0
  AreApart [] = Unit {0}
  AreApart (x ∷ xs) = AllByRecursion (λ y. key x ≢ key y) xs × AreApart xs

  swapped : (f : K → V) (a b : K) (v w : V) → a ≢ b → changed same (changed same f a v) b w ≡ changed same (changed same f b w) a v
  swapped f a b v w apart = fun_ext (λ q. by q (same a q) (same b q) refl refl)
    where
      by : (q : K) (x y : Bool) → same a q ≡ x → same b q ≡ y → cond y w (cond x v (f q)) ≡ cond x v (cond y w (f q))
      by q true true e e' = absurd (apart ((decides a q).0 e ∙ sym ((decides b q).0 e')))
      by q true false e e' = refl
      by q false true e e' = refl
      by q false false e e' = refl

  below : (f : K → V) (k : K) (v : V) (xs : List X) → AllByRecursion (λ y. k ≢ key y) xs → listed (changed same f k v) xs ≡ changed same (listed f xs) k v
  below f k v [] apart = refl
  below f k v (x ∷ xs) apart = ap (λ (h : K → V). changed same h (key x) (value x)) (below f k v xs apart.1) ∙ swapped (listed f xs) k (key x) v (value x) apart.0

  pub onto_is : (f : K → V) (xs : List X) → AreApart xs → onto f xs ≡ listed f xs
  onto_is f [] apart = refl
  onto_is f (x ∷ xs) apart = onto_is (changed same f (key x) (value x)) xs apart.1 ∙ below f (key x) (value x) xs apart.0

-- ---- what is in order is apart

point_less : (a b : OutPoint) → outpoint_cmp a b ≡ Less → a ≢ b
point_less a b less e =
    let itself : outpoint_cmp a a ≡ Less = subst (λ (c : OutPoint). outpoint_cmp a c ≡ Less) (sym e) less in
    true_is_not_false (sym (same_point-self a) ∙ sym (same_by_cmp a a) ∙ ap is_eq itself)

name_less : (a b : List ℕ) → slice_cmp nat_cmp a b ≡ Less → a ≢ b
name_less a b less e =
    let itself : slice_cmp nat_cmp a a ≡ Less = subst (λ (c : List ℕ). slice_cmp nat_cmp a c ≡ Less) (sym e) less in
    true_is_not_false (sym (bytes_eq-self a) ∙ sym (is_eq-slice_cmp a a) ∙ ap is_eq itself)

pub points_apart : (helds : List HeldCoin) → IsSortedByPoint helds → AreApart same_point-Decides (λ (held : HeldCoin). held.at) (λ (held : HeldCoin). Some held.coin) helds
unfolding IsStrictlySortedBy
points_apart [] sorted = tt
points_apart (held ∷ helds) sorted = (all held.at helds sorted.0, points_apart helds sorted.1)
  where
    all : (at : OutPoint) (helds : List HeldCoin) → AllByRecursion (λ (y : OutPoint). outpoint_cmp at y ≡ Less) (points_of helds) → AllByRecursion (λ (held : HeldCoin). at ≢ held.at) helds
    all at [] less = tt
    all at (held ∷ helds) less = (point_less at held.at less.0, all at helds less.1)

pub names_apart : (hs : List History) → IsStrictlySortedBy (slice_cmp nat_cmp) (names_of hs) → AreApart bytes_eq-Decides (λ (h : History). h.name) (λ (h : History). h.items) hs
unfolding IsStrictlySortedBy
names_apart [] sorted = tt
names_apart (h ∷ hs) sorted = (all h.name hs sorted.0, names_apart hs sorted.1)
  where
    all : (name : List ℕ) (hs : List History) → AllByRecursion (λ (y : List ℕ). slice_cmp nat_cmp name y ≡ Less) (names_of hs) → AllByRecursion (λ (h : History). name ≢ h.name) hs
    all name [] less = tt
    all name (h ∷ hs) less = (name_less name h.name less.0, all name hs less.1)
