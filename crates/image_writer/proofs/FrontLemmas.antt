-- Keys that are compared by their first bytes, and as a whole where these are the same.
use Rattle.std.proofs.Common.{◌≡◌, ℕ, suc, ◌+◌, ◌-◌, ◌<◌, ◌≤◌, List, [], ◌∷◌, ◌++◌, length, take, drop, get_or, replicate, refl, sym, ap, ◌∙◌, arith}
use Prim.Native.Nat.{zero}
use Rattle.std.specs.Prelude.{min, Option, Some}
use Rattle.std.specs.Cmp.{IsTotalOrder, IsStrictWeakOrder}
use Rattle.std.specs.Cmp.Lexicographic.{slice_cmp, nat_list_cmp_total, options_total}
use Rattle.std.specs.List.Sorted.{IsSortedBy, IsSortedByKey}
use Rattle.std.specs.Option.{option_cmp}
use Rattle.std.specs.Ordering.{is_lt, nat_cmp, ordering_then}
use Rattle.std.specs.declared.cmp.Ordering.{Ordering}
use Rattle.std.specs.declared.cmp.Ordering.TheVariants.{Less, Equal, Greater}
use Rattle.std.proofs.lemmas.Bool.Decides.{nat_tests}
use Rattle.std.proofs.lemmas.Cmp.{on_total, then_total}
use Rattle.std.proofs.lemmas.List.{take-append-drop, length-replicate}
use Rattle.std.proofs.lemmas.List.Sorted.{ranks_by}
use Rattle.nmc_base.specs.declared.hashes.OutPoint.{OutPoint}
use Rattle.nmc_base.specs.Hash.{outpoint_cmp}
use Rattle.image_writer.specs.Front.{padded}

-- ---- the first bytes

zeros : (n : ℕ) → replicate n 0 ≡ padded n []
zeros zero = refl
zeros (suc n) = ap (λ (l : List ℕ). 0 ∷ l) (zeros n)

-- a front of a key before zeros, where it is the whole key or as long as it may be
front_and_zeros : (n : ℕ) (key : List ℕ) (k : ℕ) → k ≤ n → k ≤ length key → (k < n → length key ≤ k) → take k key ++ drop k (replicate n 0) ≡ padded n key
front_and_zeros zero key zero low short whole = refl
front_and_zeros zero key (suc k) low short whole = absurd (omega (arith, low))
front_and_zeros (suc n) [] zero low short whole = zeros (suc n)
front_and_zeros (suc n) [] (suc k) low short whole = absurd (omega (arith, short))
front_and_zeros (suc n) (byte ∷ bytes) zero low short whole = absurd (omega (arith, whole (omega arith)))
front_and_zeros (suc n) (byte ∷ bytes) (suc k) low short whole =
    ap (λ (l : List ℕ). byte ∷ l) (front_and_zeros n bytes k (omega (arith, low)) (omega (arith, short)) (λ less. omega (arith, whole (omega (arith, less)))))

-- what was copied to the front of zeros
pub copied : (n : ℕ) (key front : List ℕ) (k : ℕ) → k ≡ min (length key) (length {A = ℕ} (replicate n 0) - 0) → take (0 + k) front ≡ take k key → drop (0 + k) front ≡ drop (0 + k) (replicate n 0)
    → front ≡ padded n key
copied n key front k e first rest =
    let count : k ≡ min (length key) n = omega (arith, e, length-replicate {A = ℕ} n 0) in
    let all : 0 + k ≡ k = omega arith in
    let first' : take k front ≡ take k key = ap (λ (j : ℕ). take j front) (sym all) ∙ first in
    let rest' : drop k front ≡ drop k (replicate n 0) = ap (λ (j : ℕ). drop j front) (sym all) ∙ rest ∙ ap (λ (j : ℕ). drop j (replicate {A = ℕ} n 0)) all in
    sym (take-append-drop k front) ∙ (λ i. first' i ++ rest' i) ∙ front_and_zeros n key k (omega (arith, count)) (omega (arith, count)) (λ less. omega (arith, count, less))

-- ---- where the first bytes differ, they decide

abbrev fronts : ℕ → List ℕ → List ℕ → Ordering
fronts n a b = slice_cmp nat_cmp (padded n a) (padded n b)

zero_first : (byte : ℕ) → nat_cmp 0 (suc byte) ≡ Less
zero_first byte = grind (arith, nat_tests)

zero_last : (byte : ℕ) → nat_cmp (suc byte) 0 ≡ Greater
zero_last byte = grind (arith, nat_tests)

-- what ends stands before what goes on
ends_first : (n : ℕ) (bytes : List ℕ) → ordering_then (fronts n [] bytes) Less ≡ Less
ends_first zero bytes = refl
ends_first (suc n) [] = ends_first n []
ends_first (suc n) (zero ∷ bytes) = ends_first n bytes
ends_first (suc n) (suc byte ∷ bytes) = ap (λ (o : Ordering). ordering_then (ordering_then o (fronts n [] bytes)) Less) (zero_first byte)

goes_on_last : (n : ℕ) (bytes : List ℕ) → ordering_then (fronts n bytes []) Greater ≡ Greater
goes_on_last zero bytes = refl
goes_on_last (suc n) [] = goes_on_last n []
goes_on_last (suc n) (zero ∷ bytes) = goes_on_last n bytes
goes_on_last (suc n) (suc byte ∷ bytes) = ap (λ (o : Ordering). ordering_then (ordering_then o (fronts n bytes [])) Greater) (zero_last byte)

same_first : (first front rest : Ordering) → ordering_then front rest ≡ rest → ordering_then (ordering_then first front) (ordering_then first rest) ≡ ordering_then first rest
same_first Less front rest e = refl
same_first Equal front rest e = e
same_first Greater front rest e = refl

pub padded_law : (n : ℕ) (a b : List ℕ) → ordering_then (slice_cmp nat_cmp (padded n a) (padded n b)) (slice_cmp nat_cmp a b) ≡ slice_cmp nat_cmp a b
padded_law zero a b = refl
padded_law (suc n) [] [] = padded_law n [] []
padded_law (suc n) [] (byte ∷ bytes) = ends_first (suc n) (byte ∷ bytes)
padded_law (suc n) (byte ∷ bytes) [] = goes_on_last (suc n) (byte ∷ bytes)
padded_law (suc n) (x ∷ xs) (y ∷ ys) = same_first (nat_cmp x y) (fronts n xs ys) (slice_cmp nat_cmp xs ys) (padded_law n xs ys)

then_both : (front txid index : Ordering) → ordering_then front txid ≡ txid → ordering_then front (ordering_then txid index) ≡ ordering_then txid index
then_both Less txid index e = ap (λ (o : Ordering). ordering_then o index) e
then_both Equal txid index e = refl
then_both Greater txid index e = ap (λ (o : Ordering). ordering_then o index) e

pub point_law : (a b : OutPoint) → ordering_then (slice_cmp nat_cmp (padded 4 a.txid.0) (padded 4 b.txid.0)) (outpoint_cmp a b) ≡ outpoint_cmp a b
point_law a b = then_both (fronts 4 a.txid.0 b.txid.0) (slice_cmp nat_cmp a.txid.0 b.txid.0) (nat_cmp a.index b.index) (padded_law 4 a.txid.0 b.txid.0)

-- ---- elements with the first bytes of a key

-- the first bytes are those of the key that is found
pub record Begins {K : Type 0} (begins : K → List ℕ) (front : List ℕ) (found_key : Option K) (key : K) : Type 0 where
  pub front_is : front ≡ begins key
  pub found : found_key ≡ Some key

module _ {K X : Type 0} (cmp : K → K → Ordering) where
  pub ranked : IsTotalOrder cmp → (front : X → List ℕ) (find : X → Option K) → IsStrictWeakOrder (λ x y. is_lt (ordering_then (slice_cmp nat_cmp (front x) (front y)) (option_cmp cmp (find x) (find y))))
  ranked total front find = ranks_by (then_total (on_total front nat_list_cmp_total) (on_total find (options_total total))) (λ x. x)

  -- in the order of the first bytes and of what is found, the keys are in order
  pub by_key : (begins : K → List ℕ) → ((a b : K) → ordering_then (slice_cmp nat_cmp (begins a) (begins b)) (cmp a b) ≡ cmp a b) → (front : X → List ℕ) (find : X → Option K) (key : X → K) (xs : List X)
      → ((k : ℕ) (d : X) → k < length xs → Begins begins (front (get_or xs k d)) (find (get_or xs k d)) (key (get_or xs k d)))
      → IsSortedBy (λ x y. is_lt (ordering_then (slice_cmp nat_cmp (front x) (front y)) (option_cmp cmp (find x) (find y)))) xs → IsSortedByKey key cmp xs
  by_key begins law front find key xs all sorted k d low high =
      let a = all (k + 1) d high in
      let b = all k d (omega (arith, high)) in
      sym (ap is_lt ((λ i. ordering_then (slice_cmp nat_cmp (a.front_is i) (b.front_is i)) (option_cmp cmp (a.found i) (b.found i))) ∙ law (key (get_or xs (k + 1) d)) (key (get_or xs k d)))) ∙ sorted k d low high
