-- Of two lists the one with the lower number is the lower.
use Rattle.std.proofs.Common.{◌≡◌, ℕ, zero, suc, ◌+◌, ◌*◌, ◌-◌, ◌^◌, ◌<◌, ◌≤◌, Bool, true, false, cond, nat_lt, List, [], ◌∷◌, length, refl, sym, ap, ◌∙◌, subst, inl, inr, ◌⊎◌, arith, pow-suc, mul-le-mul_right, suc-mul, add-mul, mul_assoc, le-mul_of_pos_right}
use Rattle.std.proofs.lemmas.Bool.{cases_lt}
use Rattle.std.specs.Cmp.Lexicographic.{slice_cmp}
use Rattle.std.specs.Ordering.{nat_cmp, ordering_then}
use Rattle.std.specs.declared.cmp.Ordering.{Ordering}
use Rattle.std.specs.declared.cmp.Ordering.TheVariants.{Less, Equal, Greater}
use Rattle.nmc_base.specs.Hash.{outpoint_cmp}
use Rattle.nmc_base.specs.declared.hashes.OutPoint.{OutPoint}
use Rattle.shared_chunks.specs.Eight.{number}

lt_true : (x y : ℕ) → x < y → nat_lt x y ≡ true
lt_true x y h = grind (arith, h)

lt_false : (x y : ℕ) → y ≤ x → nat_lt x y ≡ false
lt_false x y h = grind (arith, h)

less : (x y : ℕ) → x < y → nat_cmp x y ≡ Less
less x y h = grind (arith, h)

same : (x : ℕ) → nat_cmp x x ≡ Equal
same x = grind arith

-- the weight of the next byte
more : (n : ℕ) → 256 ^ (suc n) ≡ 256 * 256 ^ n
more n = grind (arith, pow-suc)

positive : (n : ℕ) → 1 ≤ 256 ^ n
positive zero = omega arith
positive (suc n) = omega (arith, more n, positive n)

byte : (n b : ℕ) (bs : List ℕ) → b < 256 → number (suc n) (b ∷ bs) ≡ b * 256 ^ n + number n bs
byte n b bs h = ap (λ t. cond t (b * 256 ^ n + number n bs) (256 ^ (suc n) - 1)) (lt_true b 256 h)

none : (n b : ℕ) (bs : List ℕ) → 256 ≤ b → number (suc n) (b ∷ bs) ≡ 256 ^ (suc n) - 1
none n b bs h = ap (λ t. cond t (b * 256 ^ n + number n bs) (256 ^ (suc n) - 1)) (lt_false b 256 h)

-- so many times a weight
times : (a b p : ℕ) → a < b → a * p + p ≤ b * p
times a b p h = let k : suc a * p ≤ b * p = mul-le-mul_right p h in omega (arith, k, suc-mul a p)

pub bound : (n : ℕ) (bs : List ℕ) → number n bs < 256 ^ n
bound zero bs = omega arith
bound (suc n) [] = omega (arith, more n, positive n)
bound (suc n) (b ∷ bs) = elim (cases_lt b 256) [
  | inl h ↦ omega (arith, byte n b bs h, bound n bs, times b 256 (256 ^ n) h, more n)
  | inr h ↦ omega (arith, none n b bs h, more n, positive n)
]

pub rising : (n : ℕ) (xs ys : List ℕ) → number n xs < number n ys → slice_cmp nat_cmp xs ys ≡ Less
rising zero xs ys h = absurd (omega (arith, h))
rising (suc n) [] [] h = absurd (omega (arith, h))
rising (suc n) [] (y ∷ ys) h = refl
rising (suc n) (x ∷ xs) [] h = absurd (omega (arith, h))
rising (suc n) (x ∷ xs) (y ∷ ys) h = elim (cases_lt x y) [
  | inl l ↦ ap (λ r. ordering_then r (slice_cmp nat_cmp xs ys)) (less x y l)
  | inr g ↦ elim (cases_lt y x) [
    | inl l ↦ elim (cases_lt x 256) [
      | inl s ↦ let t : y < 256 = omega arith in absurd (omega (arith, h, byte n x xs s, byte n y ys t, bound n ys, times y x (256 ^ n) l))
      | inr s ↦ absurd (omega (arith, h, none n x xs s, bound (suc n) (y ∷ ys)))
    ]
    | inr e ↦ let q : x ≡ y = omega arith in
        elim (cases_lt x 256) [
          | inl s ↦ let t : y < 256 = omega arith in
              let w : x * 256 ^ n ≡ y * 256 ^ n = ap (λ z. z * 256 ^ n) q in
              subst (λ z. ordering_then (nat_cmp x z) (slice_cmp nat_cmp xs ys) ≡ Less) q
              (ap (λ r. ordering_then r (slice_cmp nat_cmp xs ys)) (same x) ∙ rising n xs ys (omega (arith, h, byte n x xs s, byte n y ys t, w)))
          | inr s ↦ absurd (omega (arith, h, none n x xs s, bound (suc n) (y ∷ ys)))
        ]
  ]
]

-- a byte more in the number so far
step_by : (sum m b : ℕ) (bs : List ℕ) → b < 256 → (sum * 256 + b) * 256 ^ m + number m bs ≡ sum * 256 ^ (suc m) + number (suc m) (b ∷ bs)
step_by sum m b bs k =
    let a : (sum * 256 + b) * 256 ^ m ≡ sum * 256 * 256 ^ m + b * 256 ^ m = add-mul (sum * 256) b (256 ^ m) in
    let c : sum * 256 * 256 ^ m ≡ sum * (256 * 256 ^ m) = mul_assoc sum 256 (256 ^ m) in
    let d : sum * 256 ^ (suc m) ≡ sum * (256 * 256 ^ m) = ap (λ z. sum * z) (more m) in
    omega (arith, a, c, d, byte m b bs k)

pub step : (sum left b : ℕ) (bs : List ℕ) → 0 < left → b < 256 → (sum * 256 + b) * 256 ^ (left - 1) + number (left - 1) bs ≡ sum * 256 ^ left + number left (b ∷ bs)
step sum zero b bs h k = absurd (omega (arith, h))
step sum (suc m) b bs h k =
    let e : suc m - 1 ≡ m = omega arith in
    subst (λ (z : ℕ). (sum * 256 + b) * 256 ^ z + number z bs ≡ sum * 256 ^ (suc m) + number (suc m) (b ∷ bs)) (sym e) (step_by sum m b bs k)

nothing : (n : ℕ) → number n [] ≡ 0
nothing zero = refl
nothing (suc n) = refl

past_by : (sum m : ℕ) → (sum * 256) * 256 ^ m + number m [] ≡ sum * 256 ^ (suc m) + number (suc m) []
past_by sum m =
    let c : sum * 256 * 256 ^ m ≡ sum * (256 * 256 ^ m) = mul_assoc sum 256 (256 ^ m) in
    let d : sum * 256 ^ (suc m) ≡ sum * (256 * 256 ^ m) = ap (λ z. sum * z) (more m) in
    omega (arith, c, d, nothing m)

pub step_past : (sum left : ℕ) → 0 < left → (sum * 256) * 256 ^ (left - 1) + number (left - 1) [] ≡ sum * 256 ^ left + number left []
step_past sum zero h = absurd (omega (arith, h))
step_past sum (suc m) h =
    let e : suc m - 1 ≡ m = omega arith in
    subst (λ (z : ℕ). (sum * 256) * 256 ^ z + number z [] ≡ sum * 256 ^ (suc m) + number (suc m) []) (sym e) (past_by sum m)

-- the number so far fits its type
fits_by : (s m : ℕ) → s ≤ s * 256 ^ m
fits_by s m = le-mul_of_pos_right s (positive m)

eight_bytes : 256 ^ 8 ≡ 18446744073709551616
eight_bytes = refl

pub fits : (sum left b : ℕ) (bs bytes : List ℕ) → 0 < left → b < 256 → sum * 256 ^ left + number left (b ∷ bs) ≡ number 8 bytes → sum * 256 + b < 18446744073709551616
fits sum left b bs bytes h k e =
    omega (arith, eight_bytes, bound 8 bytes, e, step sum left b bs h k, fits_by (sum * 256 + b) (left - 1))

pub fits_past : (sum left : ℕ) (bytes : List ℕ) → 0 < left → sum * 256 ^ left + number left [] ≡ number 8 bytes → sum * 256 < 18446744073709551616
fits_past sum left bytes h e =
    omega (arith, eight_bytes, bound 8 bytes, e, step_past sum left h, fits_by (sum * 256) (left - 1))

pub nil_of : (xs : List ℕ) → length xs ≡ 0 → xs ≡ []
nil_of [] h = refl
nil_of (x ∷ xs) h = absurd (omega (arith, h))

pub fits_any : (sum left x : ℕ) (bytes : List ℕ) → 0 < left → sum * 256 ^ left + x ≡ number 8 bytes → sum * 256 < 18446744073709551616
fits_any sum zero x bytes h e = absurd (omega (arith, h))
fits_any sum (suc m) x bytes h e =
    let c : sum * 256 * 256 ^ m ≡ sum * (256 * 256 ^ m) = mul_assoc sum 256 (256 ^ m) in
    let d : sum * 256 ^ (suc m) ≡ sum * (256 * 256 ^ m) = ap (λ z. sum * z) (more m) in
    omega (arith, eight_bytes, bound 8 bytes, e, c, d, fits_by (sum * 256) m)

pub rising_points : (x y : OutPoint) → number 8 x.txid.0 < number 8 y.txid.0 → outpoint_cmp x y ≡ Less
rising_points x y h = ap (λ r. ordering_then r (nat_cmp x.index y.index)) (rising 8 x.txid.0 y.txid.0 h)
