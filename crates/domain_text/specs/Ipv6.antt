-- Texts of IPv6 addresses (RFC 4291, 2.2, forms 1 and 2).
use Rattle.std.specs.Prelude.{◌≡◌, ℕ, ◌+◌, ◌-◌, ◌*◌, ◌<◌, nat_lt, nat_le, ◌==◌, if◌then◌else◌, Bool, false, ◌&&◌, List, [], ◌∷◌, ◌++◌, length, drop, replicate, fold, Option, Some, None}
use Rattle.std.specs.Option.{option_map, option_and_then}
use Rattle.std.specs.Int.{w16, to_be_bytes}
use Rattle.std.specs.List.{list_all, slice_split, flat_map, join_with_byte}
use Rattle.std.specs.Char.{is_digit, digit_value}

-- the value of hexadecimal digits
abbrev pub hex_value : List ℕ → ℕ
hex_value text = fold (λ n c. n * 16 + digit_value c) 0 text

-- 1 to 4 hexadecimal digits, in either case
abbrev pub group_of : List ℕ → Option ℕ
group_of text = if nat_le 1 (length text) && nat_le (length text) 4 && list_all (λ c. is_digit c 16) text then Some (hex_value text) else None

-- texts of groups, one by one
abbrev pub AreEach : List (List ℕ) → List ℕ → Type 0
AreEach [] [] = Unit {0}
AreEach [] (group ∷ groups) = ⊥
AreEach (text ∷ texts) [] = ⊥
AreEach (text ∷ texts) (group ∷ groups) = (group_of text ≡ Some group) × AreEach texts groups

-- groups, joined by colons
pub record AreGroups (text groups : List ℕ) : Type 0 where
  pub texts : List (List ℕ)
  pub are : AreEach texts groups
  pub spelled : text ≡ join_with_byte 58 texts

-- the groups, each the high byte first
abbrev pub address_bytes : List ℕ → List ℕ
address_bytes = flat_map (to_be_bytes w16)

-- groups, and between them as many of zero as are missing
abbrev pub filled : List ℕ → List ℕ → List ℕ
filled left right = left ++ (replicate (8 - (length left + length right)) 0 ++ right)

-- Eight groups; or fewer, and one `::`, which stands for those that are missing.
pub data IsIpv6 (text address : List ℕ) : Type 0 where
  whole : (groups : List ℕ) → length groups ≡ 8 → AreGroups text groups → address ≡ address_bytes groups → IsIpv6 text address
  gap : (before behind left right : List ℕ) → text ≡ before ++ (58 ∷ 58 ∷ behind) → AreGroups before left → AreGroups behind right
      → length left + length right < 8 → address ≡ address_bytes (filled left right) → IsIpv6 text address

-- the groups of these texts
abbrev pub groups_in : List (List ℕ) → Option (List ℕ)
groups_in [] = Some []
groups_in (text ∷ texts) = option_and_then (λ group. option_map (λ groups. group ∷ groups) (groups_in texts)) (group_of text)

-- what stands between the colons; the empty text has nothing between colons
abbrev pub between : List ℕ → List (List ℕ)
between [] = []
between (b ∷ rest) = slice_split (λ c. c == 58) (b ∷ rest)

abbrev pub groups_of : List ℕ → Option (List ℕ)
groups_of text = groups_in (between text)

abbrev pub begins_colon : List ℕ → Bool
begins_colon [] = false
begins_colon (b ∷ rest) = b == 58

-- what stands before and behind the first `::`
abbrev pub gap_of : List ℕ → Option (List ℕ × List ℕ)
gap_of [] = None
gap_of (b ∷ rest) = if b == 58 && begins_colon rest then Some ([], drop 1 rest) else option_map (λ p. (b ∷ p.0, p.1)) (gap_of rest)

abbrev pub if_eight : List ℕ → Option (List ℕ)
if_eight groups = if length groups == 8 then Some groups else None

abbrev pub with_gap : List ℕ → List ℕ → Option (List ℕ)
with_gap left right = if nat_lt (length left + length right) 8 then Some (filled left right) else None

abbrev pub by_gap : List ℕ → Option (List ℕ × List ℕ) → Option (List ℕ)
by_gap text None = option_and_then if_eight (groups_of text)
by_gap text (Some p) = option_and_then (λ left. option_and_then (with_gap left) (groups_of p.1)) (groups_of p.0)

unfoldable pub ipv6_of : List ℕ → Option (List ℕ)
ipv6_of text = option_map address_bytes (by_gap text (gap_of text))

-- at most eight groups
abbrev pub if_few : List ℕ → Option (List ℕ)
if_few groups = if nat_le (length groups) 8 then Some groups else None
