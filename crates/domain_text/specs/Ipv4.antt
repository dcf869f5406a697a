-- Texts of IPv4 addresses (the dotted decimal of RFC 1123, 2.1, and RFC 3986, 3.2.2).
use Rattle.std.specs.Prelude.{◌≡◌, ℕ, zero, suc, ◌+◌, ◌-◌, ◌*◌, ◌<◌, nat_lt, ◌==◌, if◌then◌else◌, List, [], ◌∷◌, length, map, Option, Some, None, decimal}
use Rattle.std.specs.Option.{option_and_then}
use Rattle.std.specs.List.{AllByRecursion, join_with_byte}
use Rattle.std.specs.Char.{is_ascii_digit}
use Rattle.domain_text.specs.Reading.{Reader, after}

-- four numbers up to 255, in decimal without leading zeros, joined by dots
pub record IsIpv4 (text address : List ℕ) : Type 0 where
  pub four : length address ≡ 4
  pub bytes : AllByRecursion (λ n. n < 256) address
  pub spelled : text ≡ join_with_byte 46 (map decimal address)

abbrev pub below_256 : ℕ → List ℕ → Option (ℕ × List ℕ)
below_256 n rest = if nat_lt n 256 then Some (n, rest) else None

-- up to so many more digits of a number
abbrev pub digits_at : ℕ → ℕ → Reader ℕ
digits_at zero n bytes = below_256 n bytes
digits_at (suc k) n [] = below_256 n []
digits_at (suc k) n (d ∷ rest) = if is_ascii_digit d then digits_at k (n * 10 + (d - 48)) rest else below_256 n (d ∷ rest)

-- a number up to 255 without leading zeros
abbrev pub octet_at : Reader ℕ
octet_at [] = None
octet_at (d ∷ rest) = if is_ascii_digit d then (if d == 48 then Some (0, rest) else digits_at 2 (d - 48) rest) else None

-- a number behind a dot
abbrev pub dotted_at : Reader ℕ
dotted_at bytes = option_and_then octet_at (after 46 bytes)

abbrev pub if_all : List ℕ → List ℕ → Option (List ℕ)
if_all address [] = Some address
if_all address (b ∷ rest) = None

unfoldable pub ipv4_of : List ℕ → Option (List ℕ)
ipv4_of text = option_and_then (λ a. option_and_then (λ b. option_and_then (λ c. option_and_then (λ d.
    if_all (a.0 ∷ b.0 ∷ c.0 ∷ d.0 ∷ []) d.1) (dotted_at c.1)) (dotted_at b.1)) (dotted_at a.1)) (octet_at text)
