-- The words of a command line, both ways.
use Rattle.std.proofs.Common.{◌≡◌, ℕ, ◌<◌, ◌≤◌, ◌^◌, List, [], ◌∷◌, length, get_or, Ok, Err, Option, Some, None, refl, sym, ap, subst, ◌∙◌, arith, inl, inr}
use Rattle.std.specs.Prelude.{slice_index}
use Rattle.std.specs.Fmt.{decimal}
use Rattle.std.specs.Str.{IsUtf8}
use Rattle.std.specs.Str.Parse.{ParsesUnsigned, AllDigits, digits_value}
use Rattle.std.proofs.lemmas.Bool.{cases_eq}
use Rattle.std.proofs.lemmas.Fmt.{parse-decimal, decimal_digit, first_decimal, IsAscii-decimal, decimal-digits_value}
use Rattle.std.proofs.lemmas.Str.{IsUtf8-from_ascii}
use Rattle.std.proofs.lemmas.Str.Parse.{IsNumeralModel, numerals_by_value, tells_digits, parse_plain}
use Rattle.bridge_commands.specs.Words.{IsNumber, IsPlain}

own : IsNumeralModel (AllDigits 10) (digits_value 10)
own = numerals_by_value (AllDigits 10) tells_digits

module _ (least most : ℕ) (fits : most < 2 ^ 64) (word : List ℕ) where
  wide : (n : ℕ) → IsNumber least most word n → n < 2 ^ 64
  wide n is = let no_more = is.no_more in omega (arith, no_more, fits)

  -- a number is text
  pub number_text : (n : ℕ) → IsNumber least most word n → IsUtf8 word
  number_text n is = subst IsUtf8 (sym is.spelled) (IsUtf8-from_ascii (decimal n) (IsAscii-decimal n (wide n is)))

  -- and is read as the number
  pub number_read : (n other : ℕ) → IsNumber least most word n → ParsesUnsigned {E = Unit {0}} 64 10 word (Ok other) → other ≡ n
  number_read n other is parses = let read = parse-decimal {E = Unit {0}} 64 n word (Ok other) (wide n is) (wide n is) is.spelled parses in cc

  pub number_no_error : (n : ℕ) → IsNumber least most word n → ParsesUnsigned {E = Unit {0}} 64 10 word (Err tt) → ⊥
  number_no_error n is parses = let read = parse-decimal {E = Unit {0}} 64 n word (Err tt) (wide n is) (wide n is) is.spelled parses in cc

  pub number_plain : (n : ℕ) → IsNumber least most word n → IsPlain word
  number_plain n is = elim (cases_eq n 0) [
    | inl zero ↦ let one : word ≡ 48 ∷ [] = is.spelled ∙ ap decimal zero ∙ decimal_digit 0 (omega arith) in record {
      no_sign = λ e. absurd (omega (arith, e, ap (λ (w : List ℕ). slice_index w 0) one));
      no_zero = λ e. ap length one;
    }
    | inr some ↦
        let first : 48 < slice_index word 0 = subst (λ (w : List ℕ). 48 < slice_index w 0) (sym is.spelled) (first_decimal n (omega (arith, some)) (wide n is)) in
        record { no_sign = λ e. absurd (omega (arith, e, first)); no_zero = λ e. absurd (omega (arith, e, first)) }
  ]

-- a number that was read, written without a sign and a leading zero, is spelled by the word
pub plain_number : (word : List ℕ) (n : ℕ) → IsPlain word → ParsesUnsigned {E = Unit {0}} 64 10 word (Ok n) → word ≡ decimal n
plain_number word n plain parses =
    let read = parse_plain own {E = Unit {0}} 64 word (Ok n) parses plain.no_sign in
    let value : n ≡ digits_value 10 word = read.1 in
    sym (ap decimal value ∙ decimal-digits_value own word read.0.0 read.0.1 plain.no_zero (omega (arith, read.0.2)))
