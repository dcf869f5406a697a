-- How many bytes a name takes, label by label.
use Rattle.std.proofs.Common.{◌≡◌, ℕ, zero, suc, ◌+◌, ◌<◌, ◌≤◌, ◌==◌, nat_le, true, false, List, [], ◌∷◌, length, drop, Option, Some, None, option_map, refl, sym, ap, ◌∙◌, arith}
use Rattle.std.proofs.lemmas.Bool.Decides.{nat_tests}
use Rattle.domain_text.specs.Reading.{name_length}
use Rattle.domain_text.specs.declared.limits.TheConstants.{LONGEST_LABEL}

none_before : (o : Option ℕ) → option_map (λ m. 0 + m) o ≡ o
none_before None = refl
none_before (Some m) = ap Some (omega arith)

one_more : (n : ℕ) (o : Option ℕ) → option_map (λ m. suc n + m) o ≡ option_map suc (option_map (λ m. n + m) o)
one_more n None = refl
one_more n (Some m) = ap Some (omega arith)

-- what is left of a label is passed over
passed : (n : ℕ) (rest : List ℕ) → name_length n rest ≡ option_map (λ m. n + m) (name_length 0 (drop n rest))
passed zero rest = sym (none_before (name_length 0 rest))
passed (suc n) [] = refl
passed (suc n) (b ∷ rest) = ap (option_map suc) (passed n rest) ∙ sym (one_more n (name_length 0 (drop n rest)))

-- bytes that end within a label are no name
ends_within : (n : ℕ) (rest : List ℕ) → length rest < n → name_length n rest ≡ None
ends_within zero rest less = absurd (omega (arith, less))
ends_within (suc n) [] less = refl
ends_within (suc n) (b ∷ rest) less = ap (option_map suc) (ends_within n rest (omega (arith, less)))

-- the length of a label more
added : (len n : ℕ) (o : Option ℕ) → option_map (λ m. (len + (1 + n)) + m) o ≡ option_map (λ m. len + m) (option_map suc (option_map (λ m. n + m) o))
added len n None = refl
added len n (Some m) = ap Some (omega arith)

-- the labels behind the first `len` bytes, of which the first has n bytes
module _ (len n : ℕ) (more rest : List ℕ) (whole : Option ℕ) (is : rest ≡ n ∷ more) (so_far : option_map (λ m. len + m) (name_length 0 rest) ≡ whole) (some : n ≡ 0 → ⊥) where
  none : (n == 0) ≡ false
  none = grind (arith, nat_tests, some)

  begun : option_map (λ m. len + m) (name_length 0 (n ∷ more)) ≡ whole
  begun = ap (λ r. option_map (λ m. len + m) (name_length 0 r)) (sym is) ∙ so_far

  by_label : n ≤ LONGEST_LABEL → name_length 0 (n ∷ more) ≡ option_map suc (name_length n more)
  by_label few = let small : nat_le n LONGEST_LABEL ≡ true = grind (arith, nat_tests, few) in rw (none, small) refl

  by_too_long : (n ≤ LONGEST_LABEL → ⊥) → name_length 0 (n ∷ more) ≡ None
  by_too_long many = let large : nat_le n LONGEST_LABEL ≡ false = grind (arith, nat_tests, many) in rw (none, large) refl

  pub is_too_long : (n ≤ LONGEST_LABEL → ⊥) → None ≡ whole
  is_too_long many = ap (option_map (λ m. len + m)) (sym (by_too_long many)) ∙ begun

  pub is_cut : n ≤ LONGEST_LABEL → length more < n → None ≡ whole
  is_cut few less = ap (λ o. option_map (λ m. len + m) (option_map suc o)) (sym (ends_within n more less)) ∙ ap (option_map (λ m. len + m)) (sym (by_label few)) ∙ begun

  pub goes_on : (behind : List ℕ) → n ≤ LONGEST_LABEL → behind ≡ drop n more → option_map (λ m. (len + (1 + n)) + m) (name_length 0 behind) ≡ whole
  goes_on behind few back =
      ap (λ r. option_map (λ m. (len + (1 + n)) + m) (name_length 0 r)) back
      ∙ added len n (name_length 0 (drop n more))
      ∙ ap (λ o. option_map (λ m. len + m) (option_map suc o)) (sym (passed n more))
      ∙ ap (option_map (λ m. len + m)) (sym (by_label few))
      ∙ begun
