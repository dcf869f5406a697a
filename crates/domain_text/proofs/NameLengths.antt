-- The length of a name, a byte at a time.
use Rattle.std.proofs.Common.{◌≡◌, ℕ, zero, suc, ◌+◌, ◌-◌, ◌<◌, ◌≤◌, List, ◌∷◌, length, drop, get_or, refl, sym, ap, ◌∙◌, arith, add-one, subst, Option, Some, None, option_map, drop-cons}
use Rattle.domain_text.specs.Reading.{name_length}

shifted : (len : ℕ) (x : Option ℕ) → option_map (λ n. len + n) (option_map suc x) ≡ option_map (λ n. (len + 1) + n) x
shifted len None = refl
shifted len (Some n) = ap Some (omega arith)

inside : (left b : ℕ) (rest : List ℕ) → (left ≡ 0 → ⊥) → name_length left (b ∷ rest) ≡ option_map suc (name_length (left - 1) rest)
inside zero b rest some = absurd (some refl)
inside (suc left) b rest some = ap (λ k. option_map suc (name_length k rest)) (omega arith)

pub label : (b : ℕ) (rest : List ℕ) → (b ≡ 0 → ⊥) → b ≤ 63 → name_length 0 (b ∷ rest) ≡ option_map suc (name_length b rest)
label b rest some few = grind arith

pub in_label : (left len i new : ℕ) (bytes : List ℕ) (w : Option ℕ) → i < length bytes → (left ≡ 0 → ⊥) → new ≡ left - 1
    → option_map (λ n. len + n) (name_length left (drop i bytes)) ≡ w → option_map (λ n. (len + 1) + n) (name_length new (drop (i + 1) bytes)) ≡ w
in_label left len i new bytes w within some is h =
    rw (is, add-one i) (sym (shifted len (name_length (left - 1) (drop (suc i) bytes))) ∙ ap (option_map (λ n. len + n)) (sym (inside left (get_or bytes i 0) (drop (suc i) bytes) some))
    ∙ ap (λ z. option_map (λ n. len + n) (name_length left z)) (sym (drop-cons bytes i 0 within)) ∙ h)

pub at_label : (left len i new : ℕ) (bytes : List ℕ) (w : Option ℕ) → i < length bytes → left ≡ 0 → new ≡ get_or bytes i 0 → (get_or bytes i 0 ≡ 0 → ⊥) → get_or bytes i 0 ≤ 63
    → option_map (λ n. len + n) (name_length left (drop i bytes)) ≡ w → option_map (λ n. (len + 1) + n) (name_length new (drop (i + 1) bytes)) ≡ w
at_label left len i new bytes w within none is some few h =
    rw (is, add-one i) (sym (shifted len (name_length (get_or bytes i 0) (drop (suc i) bytes))) ∙ ap (option_map (λ n. len + n)) (sym (label (get_or bytes i 0) (drop (suc i) bytes) some few))
    ∙ ap (λ z. option_map (λ n. len + n) (name_length 0 z)) (sym (drop-cons bytes i 0 within)) ∙ subst (λ k. option_map (λ n. len + n) (name_length k (drop i bytes)) ≡ w) none h)
