-- Shapes of elements (IFA-0001).
use Rattle.std.specs.Prelude.{ℕ, zero, suc, ◌-◌, ◌/◌, nat_le, if◌then◌else◌, List, [], ◌∷◌, ◌++◌, length, take, drop, Option, Some, None, is_some}
use Rattle.std.specs.Option.{option_map, option_and_then}
use Rattle.std.specs.Result.{result_ok}
use Rattle.std.specs.List.{list_all}
use Rattle.serde_json.specs.Data.{Data, null, boolean, number, string, array, object, Items, no_items, item}
use Rattle.serde_json.specs.Find.{at, as_number, as_str, as_u64}
use Rattle.base64.specs.Engines.{standard}
use Rattle.base64.specs.GeneralPurpose.{decode_of}
use Rattle.domain_text.specs.Label.{is_label}
use Rattle.domain_text.specs.Host.{host_of, parts}

-- a whole number up to the greatest: one that the reader gives as an unsigned integer
abbrev pub whole : ℕ → Data → Option ℕ
whole greatest d = option_and_then (λ n. if nat_le n greatest then Some n else None) (option_and_then as_u64 (as_number d))

abbrev pub not_empty : List ℕ → Option (List ℕ)
not_empty [] = None
not_empty (b ∷ rest) = Some (b ∷ rest)

-- padded base64 text (RFC 4648, 4) of at least one byte
abbrev pub digest : Data → Option (List ℕ)
digest d = option_and_then (λ s. option_and_then not_empty (result_ok (decode_of standard s))) (as_str d)

-- a host text
abbrev pub host : Data → Option (List ℕ)
host d = option_and_then (λ s. if is_some (host_of s) then Some s else None) (as_str d)

-- the members of a list of exactly two, three, four
abbrev pub two : Data → Option (Data × Data)
two d = option_and_then (λ a. option_and_then (λ b. if is_some (at 2 d) then None else Some (a, b)) (at 1 d)) (at 0 d)

abbrev pub three : Data → Option (Data × Data × Data)
three d = option_and_then (λ a. option_and_then (λ b. option_and_then (λ c. if is_some (at 3 d) then None else Some (a, b, c)) (at 2 d)) (at 1 d)) (at 0 d)

abbrev pub four : Data → Option (Data × Data × Data × Data)
four d = option_and_then (λ a. option_and_then (λ b. option_and_then (λ c. option_and_then (λ e. if is_some (at 4 d) then None else Some (a, b, c, e)) (at 3 d)) (at 2 d)) (at 1 d)) (at 0 d)

-- so many strings of 255 bytes and one of the rest, each behind its length
abbrev pub cut_after : ℕ → List ℕ → List ℕ
cut_after zero text = length text ∷ text
cut_after (suc n) text = 255 ∷ (take 255 text ++ cut_after n (drop 255 text))

-- strings of 255 bytes, the last shorter; the empty text is one empty string (RFC 1035, 3.3)
abbrev pub strings : List ℕ → List ℕ
strings text = cut_after ((length text - 1) / 255) text

-- the strings of all texts in order, where each member is a text
abbrev pub texts : Items → Option (List ℕ)
texts no_items = Some []
texts (item d ds) = option_and_then (λ s. option_map (λ rest. strings s ++ rest) (texts ds)) (as_str d)

-- a text, or a list of texts that isn't empty, which is one record
abbrev pub txt : Data → Option (List ℕ)
txt null = None
txt (boolean b) = None
txt (number n) = None
txt (string s) = Some (strings s)
txt (array no_items) = None
txt (array (item d ds)) = texts (item d ds)
txt (object ms) = None

-- nothing, or labels joined by dots
abbrev pub selector : List ℕ → Option (List ℕ)
selector [] = Some []
selector (b ∷ rest) = if list_all is_label (parts (b ∷ rest)) then Some (b ∷ rest) else None

abbrev pub selector_in : Option Data → Option (List ℕ)
selector_in None = Some []
selector_in (Some d) = option_and_then selector (as_str d)
