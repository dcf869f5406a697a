-- Domain names as they stand in messages (RFC 1035, 3.1), and their sizes (RFC 1035, 2.3.4).
use Rattle.std.specs.Prelude.{◌≡◌, ℕ, ◌≤◌, nat_le, if◌then◌else◌, List, [], ◌∷◌, ◌++◌, length, map, Option, Some, None}
use Rattle.std.specs.List.{AllByRecursion}
use Rattle.std.specs.Char.{to_ascii_lowercase}
use Rattle.domain_text.specs.declared.limits.TheConstants.{LONGEST_LABEL, LONGEST_WIRE}

-- 1 to 63 bytes of any value
abbrev pub IsWireLabel : List ℕ → Type 0
IsWireLabel label = (1 ≤ length label) × (length label ≤ LONGEST_LABEL)

-- the labels, each behind its length, before the name that they stand below
abbrev pub joined_to : List (List ℕ) → List ℕ → List ℕ
joined_to [] end = end
joined_to (label ∷ labels) end = length label ∷ (label ++ joined_to labels end)

-- the labels, each behind its length, and the 0 of the root
abbrev pub wire_of : List (List ℕ) → List ℕ
wire_of labels = joined_to labels (0 ∷ [])

-- the wire form of a name, the lowest label first
pub record IsName (wire : List ℕ) : Type 0 where
  pub labels : List (List ℕ)
  pub are : AllByRecursion IsWireLabel labels
  pub text : wire ≡ wire_of labels
  pub fits : length wire ≤ LONGEST_WIRE

-- letters in lower case (RFC 1035, 2.3.3); no length of a label is the code of a letter
abbrev pub lower : List ℕ → List ℕ
lower = map to_ascii_lowercase

-- the bytes, where a name may have so many
abbrev pub if_fits : List ℕ → Option (List ℕ)
if_fits wire = if nat_le (length wire) LONGEST_WIRE then Some wire else None
