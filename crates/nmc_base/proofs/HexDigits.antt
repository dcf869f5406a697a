-- Hexadecimal digits are a text.
use Rattle.std.proofs.Common.{◌≡◌, ℕ, List, [], ◌∷◌, true, refl, subst, sym, nat_lt}
use Rattle.std.proofs.lemmas.Bool.{and_parts, ltb-true}
use Rattle.std.proofs.lemmas.Str.{IsUtf8-from_ascii}
use Rattle.std.proofs.lemmas.Str.Ascii.{IsAscii-cons, IsAscii-nil}
use Rattle.std.specs.List.{list_all}
use Rattle.std.specs.Str.{IsAscii, IsUtf8}
use Rattle.hex.specs.Hex.{encode_lower, lower_digits}
use Rattle.hex.proofs.HexLemmas.{IsAscii-encode_with}

IsAscii-from_test : (bytes : List ℕ) → list_all (λ b. nat_lt b 128) bytes ≡ true → IsAscii bytes
IsAscii-from_test [] h = IsAscii-nil
IsAscii-from_test (b ∷ bytes) h =
    let parts = and_parts (nat_lt b 128) (list_all (λ x. nat_lt x 128) bytes) h in
    IsAscii-cons b bytes (ltb-true b 128 parts.0) (IsAscii-from_test bytes parts.1)

pub IsUtf8-encode_lower : (text bytes : List ℕ) → text ≡ encode_lower bytes → IsUtf8 text
IsUtf8-encode_lower text bytes e =
    let digits : IsAscii lower_digits = IsAscii-from_test lower_digits refl in
    subst IsUtf8 (sym e) (IsUtf8-from_ascii _ (IsAscii-encode_with lower_digits bytes digits))
