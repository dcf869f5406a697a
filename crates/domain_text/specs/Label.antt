-- Labels of host texts (IFA-0001; letters, digits and hyphens as in RFC 1035, 2.3.1, and besides the underscore).
use Rattle.std.specs.Prelude.{ℕ, List, [], ◌∷◌, length, Bool, true, false, ◌&&◌, ◌||◌, ◌==◌, not, nat_le}
use Rattle.std.specs.List.{list_all, list_any}
use Rattle.std.specs.Char.{is_ascii_digit, is_ascii_uppercase, is_ascii_lowercase}
use Rattle.domain_text.specs.declared.limits.TheConstants.{LONGEST_LABEL}

-- a letter, a digit, `-` or `_`
abbrev pub is_label_byte : ℕ → Bool
is_label_byte c = is_ascii_digit c || is_ascii_uppercase c || is_ascii_lowercase c || c == 45 || c == 95

-- 1 to 63 of them
abbrev pub is_label : List ℕ → Bool
is_label text = nat_le 1 (length text) && nat_le (length text) LONGEST_LABEL && list_all is_label_byte text

abbrev pub has_capital : List ℕ → Bool
has_capital = list_any is_ascii_uppercase

abbrev pub is_star_or_empty : List ℕ → Bool
is_star_or_empty [] = true
is_star_or_empty (b ∷ []) = b == 42
is_star_or_empty (b ∷ c ∷ rest) = false

-- what names an entry of a map: `*`, the empty text, or a label without capital letters
abbrev pub is_entry_label : List ℕ → Bool
is_entry_label label = is_star_or_empty label || (is_label label && not (has_capital label))
