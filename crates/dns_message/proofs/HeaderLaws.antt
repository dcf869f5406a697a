-- A header is read where it was written, and the other way round.
use Rattle.std.proofs.Common.{◌≡◌, ℕ, zero, suc, ◌+◌, ◌^◌, ◌<◌, ◌≤◌, List, [], ◌∷◌, ◌++◌, length, drop, get_or, refl, sym, ap, ◌∙◌, arith}
use Rattle.std.proofs.lemmas.List.{get_or-drop}
use Rattle.std.proofs.lemmas.Nat.{from_be_bytes-to_be_bytes_2, be_bytes_2}
use Rattle.std.proofs.lemmas.Grind.{common_steps}
use Rattle.dns_message.specs.Header.{word_text, header_text, IsHeader}
use Rattle.dns_message.specs.Query.{HasHeader}
use Rattle.dns_message.specs.Reading.{word_at, header_at}
use Rattle.dns_message.specs.declared.header.Header.{Header}
use Rattle.dns_message.specs.declared.numbers.TheConstants.{HEADER_SIZE}

-- each is a number of 8 bits
abbrev pub AreBytes : List ℕ → Type 0
AreBytes bytes = (i : ℕ) → get_or bytes i 0 < 256

pub AreBytes-drop : (k : ℕ) (bytes : List ℕ) → AreBytes bytes → AreBytes (drop k bytes)
AreBytes-drop k bytes are i = rw (get_or-drop k bytes i 0) (are (k + i))

pair_of_bytes : (a b : ℕ) → a < 256 → b < 256 → AreBytes (a ∷ b ∷ [])
pair_of_bytes a b f g zero = f
pair_of_bytes a b f g (suc zero) = g
pair_of_bytes a b f g (suc (suc i)) = omega arith

pub word_fits : (at : ℕ) (bytes : List ℕ) → AreBytes bytes → word_at at bytes < 2 ^ 16
word_fits at bytes are = omega (arith, are at, are (at + 1))

pub drop-word_at : (at : ℕ) (bytes : List ℕ) → AreBytes bytes → at + 2 ≤ length bytes → drop at bytes ≡ word_text (word_at at bytes) ++ drop (at + 2) bytes
drop-word_at at bytes are within =
    let pair : word_text (word_at at bytes) ≡ get_or bytes at 0 ∷ get_or bytes (at + 1) 0 ∷ [] =
    be_bytes_2 (get_or bytes at 0 ∷ get_or bytes (at + 1) 0 ∷ []) (word_at at bytes) refl (pair_of_bytes (get_or bytes at 0) (get_or bytes (at + 1) 0) (are at) (are (at + 1))) refl in
    let one : drop at bytes ≡ get_or bytes at 0 ∷ drop (at + 1) bytes = grind (arith, common_steps) in
    let two : drop (at + 1) bytes ≡ get_or bytes (at + 1) 0 ∷ drop (at + 2) bytes = grind (arith, common_steps) in
    one ∙ ap (λ w. get_or bytes at 0 ∷ w) two ∙ ap (λ w. w ++ drop (at + 2) bytes) (sym pair)

-- long enough bytes begin with a header
pub header_found : (bytes : List ℕ) → AreBytes bytes → HEADER_SIZE ≤ length bytes → HasHeader (header_at bytes) (drop HEADER_SIZE bytes) bytes
header_found bytes are long = record {
  text =
      drop-word_at 0 bytes are (omega (arith, long)) ∙ ap (λ w. word_text (word_at 0 bytes) ++ w) (
      drop-word_at 2 bytes are (omega (arith, long)) ∙ ap (λ w. word_text (word_at 2 bytes) ++ w) (
      drop-word_at 4 bytes are (omega (arith, long)) ∙ ap (λ w. word_text (word_at 4 bytes) ++ w) (
      drop-word_at 6 bytes are (omega (arith, long)) ∙ ap (λ w. word_text (word_at 6 bytes) ++ w) (
      drop-word_at 8 bytes are (omega (arith, long)) ∙ ap (λ w. word_text (word_at 8 bytes) ++ w) (
      drop-word_at 10 bytes are (omega (arith, long)))))));
  words = record {
    id = word_fits 0 bytes are;
    flags = word_fits 2 bytes are;
    questions = word_fits 4 bytes are;
    answers = word_fits 6 bytes are;
    authorities = word_fits 8 bytes are;
    additionals = word_fits 10 bytes are;
  };
}

same_header : (h : Header) (id flags questions answers authorities additionals : ℕ) → id ≡ h.id → flags ≡ h.flags → questions ≡ h.questions → answers ≡ h.answers → authorities ≡ h.authorities → additionals ≡ h.additionals
    → record { id = id; flags = flags; questions = questions; answers = answers; authorities = authorities; additionals = additionals } ≡ h
same_header h id flags questions answers authorities additionals a b c d e f = rw (a, b, c, d, e, f) refl

-- a header that was written is read
pub header_at-header_text : (h : Header) (rest : List ℕ) → IsHeader h → header_at (header_text h ++ rest) ≡ h
header_at-header_text h rest fits =
    same_header h _ _ _ _ _ _ (from_be_bytes-to_be_bytes_2 h.id fits.id) (from_be_bytes-to_be_bytes_2 h.flags fits.flags) (from_be_bytes-to_be_bytes_2 h.questions fits.questions)
    (from_be_bytes-to_be_bytes_2 h.answers fits.answers) (from_be_bytes-to_be_bytes_2 h.authorities fits.authorities) (from_be_bytes-to_be_bytes_2 h.additionals fits.additionals)
