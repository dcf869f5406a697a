-- The rows of a Merkle tree end.
use Rattle.std.proofs.Common.{◌≡◌, ℕ, zero, suc, ◌+◌, ◌≤◌, List, [], ◌∷◌, length, refl, arith}
use Rattle.block_grammar.specs.Merkle.{paired_row, row_root, merkle_root_of}

-- a row above two hashes at least is shorter
pub row_shorter : (hashes : List (List ℕ)) → length (paired_row hashes) ≤ length hashes
row_shorter [] = omega arith
row_shorter (hash ∷ []) = omega arith
row_shorter (left ∷ right ∷ hashes) = omega (arith, row_shorter hashes)

-- the number of rows doesn't matter, where there are enough of them
rows_enough : (m n : ℕ) (hashes : List (List ℕ)) → length hashes ≤ m + 1 → length hashes ≤ n + 1 → row_root m hashes ≡ row_root n hashes
rows_enough m n [] lm ln = refl
rows_enough m n (hash ∷ []) lm ln = refl
rows_enough zero n (left ∷ right ∷ hashes) lm ln = absurd (omega (arith, lm))
rows_enough (suc m) zero (left ∷ right ∷ hashes) lm ln = absurd (omega (arith, ln))
rows_enough (suc m) (suc n) (left ∷ right ∷ hashes) lm ln =
    rows_enough m n (paired_row (left ∷ right ∷ hashes)) (omega (arith, lm, row_shorter hashes)) (omega (arith, ln, row_shorter hashes))

-- the root of one hash is that hash
pub one_root : (hash : List ℕ) → merkle_root_of (hash ∷ []) ≡ hash
unfolding merkle_root_of
one_root hash = refl

-- the root of more is that of the row above
pub next_root : (left right : List ℕ) (hashes : List (List ℕ)) → merkle_root_of (left ∷ right ∷ hashes) ≡ merkle_root_of (paired_row (left ∷ right ∷ hashes))
unfolding merkle_root_of
next_root left right hashes =
    rows_enough (suc (length hashes)) (length (paired_row (left ∷ right ∷ hashes))) (paired_row (left ∷ right ∷ hashes)) (omega (arith, row_shorter hashes)) (omega arith)
