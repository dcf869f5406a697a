-- The front of a buffer, and what stands behind a header in it.
use Rattle.std.proofs.Common.{◌≡◌, ℕ, ◌+◌, ◌-◌, ◌≤◌, List, ◌++◌, length, take, drop, sym, ap, ◌∙◌, arith, length-append}
use Rattle.std.proofs.lemmas.List.{take-append-le, drop-take}
use Rattle.std.proofs.lemmas.Grind.{common_steps}
use Rattle.std.proofs.Math.Seq.{take-append-add}
use Rattle.dns_message.specs.declared.numbers.TheConstants.{HEADER_SIZE}

drop-append : (n : ℕ) (xs ys : List ℕ) → n ≤ length xs → drop n (xs ++ ys) ≡ drop n xs ++ ys
drop-append n xs ys h = grind (arith, common_steps)

pub length-take : (n : ℕ) (xs : List ℕ) → n ≤ length xs → length (take n xs) ≡ n
length-take n xs h = grind (arith, common_steps)

pub take-take : (n m : ℕ) (xs : List ℕ) → n ≤ m → take n (take m xs) ≡ take n xs
take-take n m xs h = grind (arith, common_steps)

-- a piece stands behind the first bytes: how far the bytes go then
pub end_of : (len n : ℕ) (old new piece : List ℕ) → len ≤ length old → n ≤ length new → take n new ≡ take len old ++ piece → n ≡ len + length piece
end_of len n old new piece l m h =
    sym (length-take n new m) ∙ ap length h ∙ length-append (take len old) piece ∙ ap (λ k. k + length piece) (length-take len old l)

-- what stood before stays
pub front_kept : (k len n : ℕ) (old new piece : List ℕ) → k ≤ len → len ≤ length old → len ≤ n → take n new ≡ take len old ++ piece → take k new ≡ take k old
front_kept k len n old new piece a b c h =
    let long : k ≤ length (take len old) = omega (arith, length-take len old b) in
    sym (take-take k n new (omega arith)) ∙ ap (take k) h ∙ take-append-le k (take len old) piece long ∙ take-take k len old a

-- what stands behind the header is longer by the piece
pub body_grown : (len n : ℕ) (old new piece body : List ℕ) → HEADER_SIZE ≤ len → len ≤ length old → take n new ≡ take len old ++ piece
    → drop HEADER_SIZE (take len old) ≡ body → drop HEADER_SIZE (take n new) ≡ body ++ piece
body_grown len n old new piece body a b h t =
    let long : HEADER_SIZE ≤ length (take len old) = omega (arith, length-take len old b) in
    ap (drop HEADER_SIZE) h ∙ drop-append HEADER_SIZE (take len old) piece long ∙ ap (λ w. w ++ piece) t

-- the same, read from the buffer
pub behind_header : (len : ℕ) (buf : List ℕ) → HEADER_SIZE ≤ len → drop HEADER_SIZE (take len buf) ≡ take (len - HEADER_SIZE) (drop HEADER_SIZE buf)
behind_header len buf h = let e : len ≡ HEADER_SIZE + (len - HEADER_SIZE) = omega arith in ap (λ k. drop HEADER_SIZE (take k buf)) e ∙ drop-take HEADER_SIZE (len - HEADER_SIZE) buf

-- a new header
pub under_header : (head old : List ℕ) (end : ℕ) → length head ≡ HEADER_SIZE → HEADER_SIZE ≤ end
    → take end (head ++ drop HEADER_SIZE old) ≡ head ++ drop HEADER_SIZE (take end old)
under_header head old end h le =
    let e : HEADER_SIZE + (end - HEADER_SIZE) ≡ end = omega arith in
    let front : take (HEADER_SIZE + (end - HEADER_SIZE)) (head ++ drop HEADER_SIZE old) ≡ head ++ take (end - HEADER_SIZE) (drop HEADER_SIZE old) =
    ap (λ k. take (k + (end - HEADER_SIZE)) (head ++ drop HEADER_SIZE old)) (sym h) ∙ take-append-add head (drop HEADER_SIZE old) (end - HEADER_SIZE) in
    ap (λ k. take k (head ++ drop HEADER_SIZE old)) (sym e) ∙ front ∙ ap (λ w. head ++ w) (sym (behind_header end old le))
