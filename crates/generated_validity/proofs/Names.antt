-- Names differ by their numbers, values by their heights, and all texts are short.
use Rattle.std.proofs.Common.{◌≡◌, ◌≢◌, ℕ, ◌/◌, ◌%◌, ◌<◌, ◌≤◌, Bool, true, false, List, [], ◌∷◌, ◌++◌, length, drop, refl, sym, ap, ◌∙◌, arith, append_assoc, length-append, bytes_eq}
use Rattle.std.specs.Str.Parse.{AllDigits}
use Rattle.std.specs.Char.{digit_value}
use Rattle.std.specs.Prelude.{codes, decimal}
use Rattle.std.proofs.lemmas.Fmt.{decimal_injective, decimal_is_IsNumeral, length-decimal-le}
use Rattle.chain_names.proofs.Changed.{bytes_eq-true}
use Rattle.generated_chain.specs.Texts.{name_text, value_text}

-- ---- names

pub name_of : (a b : ℕ) → a < 64 → b < 64 → name_text a ≡ name_text b → a ≡ b
name_of a b low low' e = decimal_injective a b (omega (arith, low)) (omega (arith, low')) (ap (drop 3) e)

pub names_differ : (a b : ℕ) → a < 64 → b < 64 → a ≢ b → bytes_eq (name_text a) (name_text b) ≡ false
names_differ a b low low' differ = by (bytes_eq (name_text a) (name_text b)) refl
  where
    by : (x : Bool) → bytes_eq (name_text a) (name_text b) ≡ x → x ≡ false
    by true e = absurd (differ (name_of a b low low' (bytes_eq-true (name_text a) (name_text b) e)))
    by false e = refl

byte_short : (n : ℕ) → n < 256 → length (decimal n) ≤ 3
byte_short n lt = length-decimal-le 3 n (omega arith) (omega (arith, lt)) (omega (arith, lt))

pub name_length : (n : ℕ) → n < 64 → length (name_text n) ≤ 6
name_length n lt = omega (arith, byte_short n (omega (arith, lt)), length-append (codes "d/n") (decimal n))

pub value_length : (height : ℕ) → length (value_text height) ≤ 24
value_length height =
    let high = decimal (height / 256 % 256) in
    let low = decimal (height % 256) in
    let front = codes "{\"ip\":\"10.0." in
    let end = codes "\"}" in
    omega (
      arith,
      byte_short (height / 256 % 256) (omega arith),
      byte_short (height % 256) (omega arith),
      length-append front high,
      length-append (front ++ high) (codes "."),
      length-append (front ++ high ++ codes ".") low,
      length-append (front ++ high ++ codes "." ++ low) end,
    )

-- ---- values

-- two texts of digits before a byte that is no digit
digits_end : (stop : ℕ) → 10 ≤ digit_value stop → (a b r s : List ℕ) → AllDigits 10 a → AllDigits 10 b → a ++ (stop ∷ r) ≡ b ++ (stop ∷ s) → (a ≡ b) × (r ≡ s)
digits_end stop none [] [] r s digits digits' e = (refl, ap (drop 1) e)
digits_end stop none [] (d ∷ b) r s digits digits' e =
    let same : stop ≡ d = cc in
    absurd (omega (arith, none, digits'.0, ap digit_value same))
digits_end stop none (c ∷ a) [] r s digits digits' e =
    let same : c ≡ stop = cc in
    absurd (omega (arith, none, digits.0, ap digit_value same))
digits_end stop none (c ∷ a) (d ∷ b) r s digits digits' e =
    let first : c ≡ d = cc in
    let more = digits_end stop none a b r s digits.1 digits'.1 (ap (drop 1) e) in
    ((λ i. first i ∷ more.0 i), more.1)

decimal_digits : (n : ℕ) → n < 256 → AllDigits 10 (decimal n)
decimal_digits n lt = (decimal_is_IsNumeral n (omega (arith, lt))).0.1

-- a value behind its front
value_behind : (height : ℕ) → drop 12 (value_text height) ≡ decimal (height / 256 % 256) ++ (46 ∷ (decimal (height % 256) ++ (34 ∷ 125 ∷ [])))
value_behind height =
    let high = decimal (height / 256 % 256) in
    let low = decimal (height % 256) in
    append_assoc (high ++ (46 ∷ [])) low (34 ∷ 125 ∷ []) ∙ append_assoc high (46 ∷ []) (low ++ (34 ∷ 125 ∷ []))

pub height_of_value : (a b : ℕ) → a < 65536 → b < 65536 → value_text a ≡ value_text b → a ≡ b
height_of_value a b low low' e =
    let high = digits_end 46 (omega arith) (decimal (a / 256 % 256)) (decimal (b / 256 % 256)) (decimal (a % 256) ++ (34 ∷ 125 ∷ [])) (decimal (b % 256) ++ (34 ∷ 125 ∷ []))
    (decimal_digits (a / 256 % 256) (omega arith)) (decimal_digits (b / 256 % 256) (omega arith)) (sym (value_behind a) ∙ ap (drop 12) e ∙ value_behind b) in
    let less = digits_end 34 (omega arith) (decimal (a % 256)) (decimal (b % 256)) (125 ∷ []) (125 ∷ [])
    (decimal_digits (a % 256) (omega arith)) (decimal_digits (b % 256) (omega arith)) high.1 in
    let one = decimal_injective (a / 256 % 256) (b / 256 % 256) (omega arith) (omega arith) high.0 in
    let two = decimal_injective (a % 256) (b % 256) (omega arith) (omega arith) less.0 in
    omega (arith, low, low', one, two)
