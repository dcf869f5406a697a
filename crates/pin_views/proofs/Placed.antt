-- A place in a list, by whether it is left of an item, at it, or right of it; and how many items are full to a depth.
use Rattle.std.proofs.Common.{◌≡◌, ℕ, zero, suc, ◌+◌, ◌*◌, ◌-◌, ◌^◌, ◌<◌, ◌≤◌, zero-add, suc-add, List, [], ◌∷◌, ◌++◌, length, take, Some, refl, sym, ap, ◌∙◌, subst, inl, inr, arith, pow-suc}
use Rattle.std.proofs.Math.Nat.{pow-le-pow_right}
use Rattle.std.proofs.lemmas.Bool.{cases_lt}
use Rattle.std.specs.List.{slice_get}
use Rattle.pin_views.specs.Piles.{placed}

-- a full left, the item and the right are at least half of what is as deep
pub filled_by : (d l r : ℕ) → l + 1 ≡ 2 ^ d → 2 ^ (d + 1) ≤ 2 * (l + r + 1) + 1
filled_by d l r h =
    let e : d + 1 ≡ suc d = omega arith in
    rw (e, pow-suc) (omega (arith, h))

-- what isn't longer than a full list isn't deeper
pub level_by : (d e l r : ℕ) → l + 1 ≡ 2 ^ d → 2 ^ e ≤ 2 * r + 1 → r ≤ l → e ≤ d
level_by d e l r full filled fewer = elim (cases_lt d e) [
  | inl less ↦ let up : 2 ^ suc d ≤ 2 ^ e = pow-le-pow_right (omega arith) less in
      absurd (omega (arith, full, filled, fewer, up, pow-suc 2 d))
  | inr low ↦ omega (arith, low)
]

module _ {X : Type 0} where
  pub get_left : (l : List X) (x : X) (r : List X) (i : ℕ) → i < length l → slice_get (l ++ x ∷ r) i ≡ slice_get l i
  get_left [] x r i h = absurd (omega arith)
  get_left (y ∷ l) x r zero h = refl
  get_left (y ∷ l) x r (suc i) h = get_left l x r i (omega arith)

  pub get_middle : (l : List X) (x : X) (r : List X) → slice_get (l ++ x ∷ r) (length l) ≡ Some x
  get_middle [] x r = refl
  get_middle (y ∷ l) x r = get_middle l x r

  slice_get-add : (l : List X) (x : X) (r : List X) (j : ℕ) → slice_get (l ++ x ∷ r) (suc (length l + j)) ≡ slice_get r j
  slice_get-add [] x r j = rw zero-add
  slice_get-add (y ∷ l) x r j = rw suc-add (slice_get-add l x r j)

  pub get_right : (l : List X) (x : X) (r : List X) (i : ℕ) → length l < i → slice_get (l ++ x ∷ r) i ≡ slice_get r (i - length l - 1)
  get_right l x r i h =
      let is : i ≡ suc (length l + (i - length l - 1)) = omega arith in
      ap (slice_get (l ++ x ∷ r)) is ∙ slice_get-add l x r (i - length l - 1)

  pub length_within : (l : List X) (i : ℕ) (x : X) → i < length l → length (placed l i x) ≡ length l
  length_within [] i x h = absurd (omega arith)
  length_within (y ∷ l) zero x h = refl
  length_within (y ∷ l) (suc i) x h = ap suc (length_within l i x (omega arith))

  pub placed_last : (l : List X) (x : X) → placed l (length l) x ≡ l ++ x ∷ []
  placed_last [] x = refl
  placed_last (y ∷ l) x = ap (λ t. y ∷ t) (placed_last l x)

  pub placed_left : (l : List X) (y : X) (r : List X) (i : ℕ) (x : X) → i < length l → placed (l ++ y ∷ r) i x ≡ placed l i x ++ y ∷ r
  placed_left [] y r i x h = absurd (omega arith)
  placed_left (z ∷ l) y r zero x h = refl
  placed_left (z ∷ l) y r (suc i) x h = ap (λ t. z ∷ t) (placed_left l y r i x (omega arith))

  pub placed_middle : (l : List X) (y : X) (r : List X) (x : X) → placed (l ++ y ∷ r) (length l) x ≡ l ++ x ∷ r
  placed_middle [] y r x = refl
  placed_middle (z ∷ l) y r x = ap (λ t. z ∷ t) (placed_middle l y r x)

  placed-add : (l : List X) (y : X) (r : List X) (j : ℕ) (x : X) → placed (l ++ y ∷ r) (suc (length l + j)) x ≡ l ++ y ∷ placed r j x
  placed-add [] y r j x = rw zero-add
  placed-add (z ∷ l) y r j x = rw suc-add (ap (λ t. z ∷ t) (placed-add l y r j x))

  pub placed_right : (l : List X) (y : X) (r : List X) (i : ℕ) (x : X) → length l < i → placed (l ++ y ∷ r) i x ≡ l ++ y ∷ placed r (i - length l - 1) x
  placed_right l y r i x h =
      let is : i ≡ suc (length l + (i - length l - 1)) = omega arith in
      ap (λ k. placed (l ++ y ∷ r) k x) is ∙ placed-add l y r (i - length l - 1) x

  take-placed_suc : (l : List X) (i : ℕ) (x : X) → i ≤ length l → take (suc i) (placed l i x) ≡ take i l ++ x ∷ []
  take-placed_suc [] zero x h = refl
  take-placed_suc [] (suc i) x h = absurd (omega arith)
  take-placed_suc (y ∷ l) zero x h = refl
  take-placed_suc (y ∷ l) (suc i) x h = ap (λ t. y ∷ t) (take-placed_suc l i x (omega arith))

  -- the first items up to the one that was placed
  pub take_placed : (l : List X) (i : ℕ) (x : X) → i ≤ length l → take (i + 1) (placed l i x) ≡ take i l ++ x ∷ []
  take_placed l i x h = let e : suc i ≡ i + 1 = omega arith in subst (λ (k : ℕ). take k (placed l i x) ≡ take i l ++ x ∷ []) e (take-placed_suc l i x h)

  pub length_placed : (l : List X) (i : ℕ) (x : X) → i ≤ length l → i < length (placed l i x)
  length_placed [] zero x h = omega arith
  length_placed [] (suc i) x h = absurd (omega arith)
  length_placed (y ∷ l) zero x h = omega arith
  length_placed (y ∷ l) (suc i) x h = let k : i < length (placed l i x) = length_placed l i x (omega arith) in omega (arith, k)
