-- Where a name stands in the tree of names (RFC 1034, 3.1). Names are compared without regard to case (RFC 1034, 3.1), so
-- everything here is in lower case.
use Rattle.std.specs.Prelude.{ℕ, zero, suc, ◌==◌, ◌≤◌, ◌||◌, ◌&&◌, not, Bool, true, false, if◌then◌else◌, List, [], ◌∷◌, length, take, drop, reverse, codes, Option, Some, None, nat_lt}
use Rattle.std.specs.List.{AllByRecursion, list_all}
use Rattle.std.specs.Str.{bytes_eq}
use Rattle.std.specs.Char.{is_ascii_digit, is_ascii_lowercase}
use Rattle.domain_text.specs.Names.{IsWireLabel, joined_to, wire_of, lower}
use Rattle.domain_text.specs.declared.limits.TheConstants.{LONGEST_WIRE}

-- a name below `bit.`: the label right below `bit`, and the labels below that, the lowest first
pub record Below : Type 0 where
  pub x : List ℕ
  pub path : List (List ℕ)

pub data Place : Type 0 where
  outside : Place
  apex : Place
  below : Below → Place

-- the first label, and what stands behind it (RFC 1035, 3.1); the label of the root has no bytes
abbrev pub next_of : List ℕ → Option (List ℕ × List ℕ)
next_of [] = None
next_of (n ∷ rest) = if n == 0 || nat_lt (length rest) n then None else Some (take n rest, drop n rest)

abbrev pub by_next : (List ℕ → List (List ℕ)) → Option (List ℕ × List ℕ) → List (List ℕ)
by_next more None = []
by_next more (Some p) = p.0 ∷ more p.1

-- the labels of a wire form, the lowest first, at most so many
abbrev pub labels_within : ℕ → List ℕ → List (List ℕ)
labels_within zero wire = []
labels_within (suc n) wire = by_next (labels_within n) (next_of wire)

-- the labels of a wire form, of which each has a byte at least
abbrev pub labels_of : List ℕ → List (List ℕ)
labels_of wire = labels_within (length wire) wire

-- the label of the zone
abbrev pub bit : List ℕ
bit = codes "bit"

-- where these labels lead, the highest first
abbrev pub place_up : List (List ℕ) → Place
place_up [] = outside
place_up (b ∷ []) = if bytes_eq b bit then apex else outside
place_up (b ∷ x ∷ up) = if bytes_eq b bit then below (record { x = x; path = reverse up }) else outside

-- the place of a name
abbrev pub place_of : List ℕ → Place
place_of wire = place_up (reverse (labels_of (lower wire)))

-- the name of the zone
abbrev pub apex_name : List ℕ
apex_name = wire_of (bit ∷ [])

-- the name right below the zone
abbrev pub top_of : Below → List ℕ
top_of b = wire_of (b.x ∷ bit ∷ [])

-- the name that has these labels below that
abbrev pub own_of : Below → List (List ℕ) → List ℕ
own_of b at = joined_to at (top_of b)

-- its name is one of the wire
pub record IsBelow (b : Below) : Type 0 where
  pub x : IsWireLabel b.x
  pub path : AllByRecursion IsWireLabel b.path
  pub fits : length (own_of b b.path) ≤ LONGEST_WIRE

abbrev pub IsPlace : Place → Type 0
IsPlace outside = Unit {0}
IsPlace apex = Unit {0}
IsPlace (below b) = IsBelow b

-- a letter, a digit or a hyphen (RFC 1035, 2.3.1), in lower case
abbrev pub is_letter_digit_hyphen : ℕ → Bool
is_letter_digit_hyphen c = is_ascii_lowercase c || is_ascii_digit c || c == 45

abbrev pub is_hyphen_first : List ℕ → Bool
is_hyphen_first [] = false
is_hyphen_first (c ∷ rest) = c == 45

-- letters, digits and inner hyphens (Namecoin's domain names)
abbrev pub is_domain_label : List ℕ → Bool
is_domain_label x = list_all is_letter_digit_hyphen x && not (is_hyphen_first x) && not (is_hyphen_first (reverse x))

abbrev pub is_outside : Place → Bool
is_outside outside = true
is_outside apex = false
is_outside (below b) = false
