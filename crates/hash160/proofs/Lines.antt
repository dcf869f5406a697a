-- The tables of the two lines, and their steps one after another.
use Rattle.std.proofs.Common.{◌≡◌, ◌<◌, ◌+◌, ◌-◌, ◌%◌, ℕ, zero, suc, List, [], ◌∷◌, ◌++◌, true, nat_lt, slice_index, refl, sym, ap, ◌∙◌, arith}
use Rattle.std.proofs.lemmas.Bool.{and_parts, ltb-true}
use Rattle.std.proofs.lemmas.List.Sums.{fold-append}
use Rattle.std.specs.List.{fold, list_all, range_with_len}
use Rattle.hash160.specs.Ripemd160.{Line, left, right, step, steps}

-- a list of numbers that pass the test of being below 16
index_below : (xs : List ℕ) (j : ℕ) → list_all (λ x. nat_lt x 16) xs ≡ true → slice_index xs j < 16
index_below [] j h = omega arith
index_below (x ∷ xs) zero h = ltb-true x 16 (and_parts (nat_lt x 16) (list_all (λ y. nat_lt y 16) xs) h).0
index_below (x ∷ xs) (suc j) h = index_below xs j (and_parts (nat_lt x 16) (list_all (λ y. nat_lt y 16) xs) h).1

-- each step reads one of the sixteen words
pub left_place : (j : ℕ) → slice_index left.places j % 16 ≡ slice_index left.places j
left_place j = let h = index_below left.places j refl in omega (arith, h)

pub right_place : (j : ℕ) → slice_index right.places j % 16 ≡ slice_index right.places j
right_place j = let h = index_below right.places j refl in omega (arith, h)

-- the left line goes through the five functions in order, and the right line the other way round
pub left_function : (i : ℕ) → i < 5 → i ≡ slice_index left.functions i
left_function zero h = refl
left_function (suc zero) h = refl
left_function (suc (suc zero)) h = refl
left_function (suc (suc (suc zero))) h = refl
left_function (suc (suc (suc (suc zero)))) h = refl
left_function (suc (suc (suc (suc (suc i))))) h = absurd (omega arith)

pub right_function : (i : ℕ) → i < 5 → 4 - i ≡ slice_index right.functions i
right_function zero h = refl
right_function (suc zero) h = refl
right_function (suc (suc zero)) h = refl
right_function (suc (suc (suc zero))) h = refl
right_function (suc (suc (suc (suc zero)))) h = refl
right_function (suc (suc (suc (suc (suc i))))) h = absurd (omega arith)

-- four steps, one after another
pub steps_four : (line : Line) (block v : List ℕ) (j : ℕ) (v1 v2 v3 v4 : List ℕ) → v1 ≡ step line block v j → v2 ≡ step line block v1 (j + 1)
    → v3 ≡ step line block v2 (j + 2) → v4 ≡ step line block v3 (j + 3) → v4 ≡ steps line block v j 4
unfolding steps
steps_four line block v j v1 v2 v3 v4 e1 e2 e3 e4 =
    let third : j + 1 + 1 ≡ j + 2 = omega arith in
    let fourth : j + 2 + 1 ≡ j + 3 = omega arith in
    rw (e4, e3, e2, e1, third, fourth) refl

range_with_len-add : (a m n : ℕ) → range_with_len a (m + n) ≡ range_with_len a m ++ range_with_len (a + m) n
range_with_len-add a zero n =
    let none : 0 + n ≡ n = omega arith in
    let here : a + 0 ≡ a = omega arith in
    rw (none, here) refl
range_with_len-add a (suc m) n =
    let more : suc m + n ≡ suc (m + n) = omega arith in
    let after : a + suc m ≡ a + 1 + m = omega arith in
    rw (more, after) (ap (λ (xs : List ℕ). a ∷ xs) (range_with_len-add (a + 1) m n))

-- four steps more of a line
pub steps_next : (line : Line) (block h v w : List ℕ) (n : ℕ) → v ≡ steps line block h 0 n → w ≡ steps line block v n 4
    → w ≡ steps line block h 0 (n + 4)
unfolding steps
steps_next line block h v w n before four =
    let zero_first : 0 + n ≡ n = omega arith in
    let split : range_with_len 0 (n + 4) ≡ range_with_len 0 n ++ range_with_len n 4 =
    range_with_len-add 0 n 4 ∙ rw zero_first refl in
    let whole = fold-append (step line block) h (range_with_len 0 n) (range_with_len n 4) in
    four ∙ ap (λ (x : List ℕ). fold (step line block) x (range_with_len n 4)) before ∙ sym (rw split whole)
