-- A list of bytes, cut at the first that equals another.
use Rattle.std.proofs.Common.{◌≡◌, ℕ, ◌+◌, ◌<◌, ◌==◌, true, false, List, ◌∷◌, ◌++◌, length, get_or, take, drop, All, sym, ap, ◌∙◌, take-append-drop, arith}
use Rattle.std.specs.List.{slice_split}
use Rattle.std.proofs.lemmas.List.{drop_more}
use Rattle.std.proofs.lemmas.List.Splits.{slice_split_at}
use Rattle.std.proofs.lemmas.List.Elements.{All-more}
use Rattle.std.proofs.lemmas.Bool.Decides.{nat_tests}

pub test_same : (b at : ℕ) → b ≡ at → (b == at) ≡ true
test_same b at e = grind (arith, nat_tests)

test_other : (b at : ℕ) → (b ≡ at → ⊥) → (b == at) ≡ false
test_other b at e = grind (arith, nat_tests)

-- the first part ends at a place where the test passes
pub slice_split-read : (at i : ℕ) (xs : List ℕ) → i < length xs → get_or xs i 0 ≡ at → All (λ b. (b == at) ≡ false) (take i xs) → slice_split (λ b. b == at) xs ≡ take i xs ∷ slice_split (λ b. b == at) (drop (i + 1) xs)
slice_split-read at i xs lt read h =
    let parts : xs ≡ take i xs ++ get_or xs i 0 ∷ drop (i + 1) xs =
    sym (take-append-drop i xs) ∙ ap (λ zs. take i xs ++ zs) (drop_more xs i 0 lt) in
    ap (slice_split (λ b. b == at)) parts ∙ slice_split_at (λ b. b == at) (take i xs) (get_or xs i 0) (drop (i + 1) xs) h (test_same _ at read)

pub none_more : (at i : ℕ) (xs : List ℕ) → i < length xs → (get_or xs i 0 ≡ at → ⊥) → All (λ b. (b == at) ≡ false) (take i xs) → All (λ b. (b == at) ≡ false) (take (i + 1) xs)
none_more at i xs lt other h = All-more (λ b. (b == at) ≡ false) xs i 0 lt h (test_other _ at other)
