-- The text of a report. Each line ends with a line feed; bytes are lower-case hexadecimal digits.
use Rattle.std.specs.Prelude.{ℕ, Bool, true, false, List, [], ◌∷◌, ◌++◌, codes, Option, Some, None}
use Rattle.std.specs.Fmt.{decimal}
use Rattle.std.specs.Option.{is_some}
use Rattle.hex.specs.Hex.{encode_lower}
use Rattle.nmc_base.specs.Hash.{display_text}
use Rattle.nmc_base.specs.declared.chain_ends.Profile.{Profile}
use Rattle.chain_names.specs.declared.coin.Item.{Item}
use Rattle.chain_names.specs.Coins.{entry_of}
use Rattle.chain_names.specs.Index.{served_item}

-- two digits a byte, and a dash where there is no byte
abbrev pub bytes_text : List ℕ → List ℕ
bytes_text [] = codes "-"
bytes_text (byte ∷ bytes) = encode_lower (byte ∷ bytes)

-- of a name whose entry is served, or isn't
abbrev pub state_text : Bool → List ℕ
state_text true = codes " served "
state_text false = codes " lapsed "

-- the height of the tip, and its hash in the order in which people write it
abbrev pub tip_line : ℕ → List ℕ → List ℕ
tip_line height hash = codes "tip " ++ decimal height ++ codes " " ++ display_text hash ++ codes "\n"

-- a name with its entry
abbrev pub entry_line : List ℕ → Item → Bool → List ℕ
entry_line name entry served = codes "name " ++ bytes_text name ++ codes " " ++ decimal entry.height ++ state_text served ++ bytes_text entry.value ++ codes "\n"

-- a value that a name was given, and the height at which its registration began
abbrev pub item_line : Item → List ℕ
item_line item = codes "  at " ++ decimal item.height ++ codes " since " ++ decimal item.registered ++ codes " " ++ bytes_text item.value ++ codes "\n"

abbrev pub item_lines : List Item → List ℕ
item_lines [] = []
item_lines (item ∷ items) = item_line item ++ item_lines items

-- What is reported: the network's rules, the tip, and the values that each name was given, the oldest first.
pub record Reported : Type 0 where
  pub profile : Profile
  pub height : ℕ
  pub hash : List ℕ
  pub histories : List ℕ → List Item

-- whether a name is served at the tip: it has an entry that isn't expired there
abbrev pub is_served : Reported → List ℕ → Bool
is_served what name = is_some (served_item what.profile what.height (entry_of (what.histories name)))

-- a name without an entry has no line
abbrev pub lines_with : Reported → List ℕ → List Item → Option Item → List ℕ
lines_with what name items None = []
lines_with what name items (Some entry) = entry_line name entry (is_served what name) ++ item_lines items

-- the lines of a name: its entry, and each value that it was given, from the oldest
abbrev pub name_lines : Reported → List ℕ → List ℕ
name_lines what name = lines_with what name (what.histories name) (entry_of (what.histories name))

abbrev pub names_lines : Reported → List (List ℕ) → List ℕ
names_lines what [] = []
names_lines what (name ∷ names) = name_lines what name ++ names_lines what names

-- the tip, and then the names
abbrev pub report_text : Reported → List (List ℕ) → List ℕ
report_text what names = tip_line what.height what.hash ++ names_lines what names
