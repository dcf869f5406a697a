-- Groups in arrays, and the bytes that they take.
use Rattle.std.proofs.Common.{◌≡◌, ℕ, ◌+◌, ◌-◌, ◌*◌, ◌<◌, ◌≤◌, List, [], ◌∷◌, ◌++◌, length, take, drop, get_or, replicate, refl, sym, ap, ap₂, ◌∙◌, arith, append_assoc, length-append, length-drop, nat_lt, if◌then◌else◌, Some, None, true}
use Rattle.std.proofs.lemmas.Bool.Decides.{nat_tests}
use Rattle.std.proofs.lemmas.List.{append-nil, take_all, drop_all, take_more, take-replicate, drop-replicate, length-replicate}
use Rattle.std.proofs.lemmas.Grind.{flat_map-append}
use Rattle.std.proofs.Math.Seq.{take-append-add}
use Rattle.std.proofs.lemmas.Slice.{take-put_mid}
use Rattle.std.specs.Int.{w16, to_be_bytes}
use Rattle.domain_text.specs.Ipv6.{address_bytes, filled, with_gap}
use borrow.Rule.Slice.PartMut.{put_mid, post_of}

none_behind : (r : ℕ) (xs : List ℕ) → r ≤ 8 → length xs ≡ 8 → post_of (8 - r) (8 - (8 - r)) xs ≡ []
none_behind r xs few long = drop_all (8 - (8 - r)) (drop (8 - r) xs) (omega (arith, length-drop (8 - r) xs))

zeros_between : (l r : ℕ) (left zeros : List ℕ) → length left ≡ l → l + r ≤ 8 → zeros ≡ replicate 8 0 → take (8 - r) (left ++ drop l zeros) ≡ left ++ replicate (8 - (l + r)) 0
zeros_between l r left zeros long few e =
    let n : 8 - r ≡ length left + (8 - (l + r)) = omega arith in
    ap (λ k. take k (left ++ drop l zeros)) n ∙ take-append-add left (drop l zeros) (8 - (l + r))
    ∙ ap (λ w. left ++ w) (ap (λ z. take (8 - (l + r)) (drop l z)) e ∙ ap (take (8 - (l + r))) (drop-replicate l 8 0) ∙ take-replicate (8 - (l + r)) (8 - l) 0 (omega arith))

pub put-filled : (l r : ℕ) (left right : List ℕ) → length left ≡ l → length right ≡ r → l + r < 8
    → put_mid (8 - r) (8 - (8 - r)) (left ++ drop l (replicate 8 0)) right ≡ filled left right
put-filled l r left right hl hr few =
    let zeros : List ℕ = replicate 8 0 in
    let long : length (left ++ drop l (replicate 8 0)) ≡ 8 = omega (arith, length-append left (drop l zeros), length-drop l zeros, length-replicate {A = ℕ} 8 0) in
    ap₂ (λ x y. x ++ (right ++ y)) (zeros_between l r left (replicate 8 0) hl (omega arith) refl) (none_behind r _ (omega arith) long)
    ∙ append_assoc left (replicate (8 - (l + r)) 0) (right ++ [])
    ∙ ap₂ (λ n w. left ++ (replicate n 0 ++ w)) (omega arith) (append-nil right)

pub put-pair : (i : ℕ) (groups bytes pair : List ℕ) → i < length groups → length groups ≡ 8 → length bytes ≡ 16 → pair ≡ to_be_bytes w16 (get_or groups i 0) → length pair ≡ 2
    → take (2 * i) bytes ≡ address_bytes (take i groups) → (k : ℕ) → take (2 * (i + 1)) (put_mid (2 * i) k bytes pair) ≡ address_bytes (take (i + 1) groups)
put-pair i groups bytes pair lt eight long is two h k =
    take-put_mid (2 * i) k bytes pair (2 * (i + 1)) (omega arith) (omega arith)
    ∙ ap₂ (λ x y. x ++ y) h (is ∙ sym (append-nil (to_be_bytes w16 (get_or groups i 0))))
    ∙ sym (flat_map-append (to_be_bytes w16) (take i groups) (get_or groups i 0 ∷ []))
    ∙ ap address_bytes (sym (take_more groups i 0 lt))

pub all_pairs : (i : ℕ) (groups bytes : List ℕ) → 8 ≤ i → length groups ≡ 8 → length bytes ≡ 16 → take (2 * i) bytes ≡ address_bytes (take i groups) → bytes ≡ address_bytes groups
all_pairs i groups bytes all eight long h = sym (take_all (2 * i) bytes (omega arith)) ∙ h ∙ ap address_bytes (take_all i groups (omega arith))

fewer : (n : ℕ) → n < 8 → nat_lt n 8 ≡ true
fewer n h = grind (arith, nat_tests)

pub with_gap-put : (l r : ℕ) (left right ls rs : List ℕ) → left ≡ ls → right ≡ rs → length left ≡ l → length right ≡ r → l + r < 8
    → Some (put_mid (8 - r) (8 - (8 - r)) (left ++ drop l (replicate 8 0)) right) ≡ with_gap ls rs
with_gap-put l r left right ls rs el er hl hr few =
    let small : nat_lt (length left + length right) 8 ≡ true = fewer (length left + length right) (omega arith) in
    ap Some (put-filled l r left right hl hr few) ∙ sym (ap (λ b. if b then Some (filled left right) else None) small) ∙ ap₂ with_gap el er
