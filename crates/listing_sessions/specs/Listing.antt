-- The listing of a chain: the names that have an entry, in the order of their bytes, each with that entry; and pages of it.
use Rattle.std.specs.Prelude.{ℕ, Bool, List, ◌∷◌, ◌++◌, length, nat_le, take, if◌then◌else◌}
use Rattle.std.specs.Int.{w16, w32, to_le_bytes}
use Rattle.std.specs.List.{flat_map}
use Rattle.std.specs.Option.{is_some}
use Rattle.chain_names.specs.Coins.{history_of}
use Rattle.chain_names.specs.Index.{served_value}
use Rattle.chain_names.specs.Log.{log_of}
use Rattle.chain_names.specs.declared.coin.Item.{Item}
use Rattle.chain_commands.specs.Chain.{Chain, height_of}
use Rattle.pin_views.specs.declared.rows.Row.{Row}
use Rattle.sliced_save.specs.Rows.{AreRowsOf}

-- the history of each name, by the chain's log
abbrev pub histories : Chain → List ℕ → List Item
histories chain = history_of (log_of chain.start chain.base.height chain.blocks)

-- each name that has an entry in the chain, lapsed or not, with the height and the value of that entry
abbrev pub IsListing : Chain → List (List ℕ × Row) → Type 0
IsListing chain rows = AreRowsOf (histories chain) rows

-- whether the chain serves the row's name at its tip
abbrev pub is_served : Chain → List ℕ × Row → Bool
is_served chain row = is_some (served_value chain.base.profile (histories chain) (height_of chain) row.0)

-- a truth value as a byte
abbrev pub flag : Bool → ℕ
flag b = if b then 1 else 0

-- the name behind its length in one byte; the height of the entry in 4 bytes; a byte that is 1 where the name is served; and the value
-- behind its length in 2 bytes. Numbers have their low byte first.
abbrev pub row_text : (List ℕ × Row → Bool) → List ℕ × Row → List ℕ
row_text served row =
    length row.0 ∷ (row.0 ++ (to_le_bytes w32 row.1.height ++ (flag (served row) ∷ (to_le_bytes w16 (length row.1.value) ++ row.1.value))))

-- A page of so many of the rows that are left, or of all where these are fewer: a byte that is 1 exactly where no row is left behind it,
-- the number of its rows in 4 bytes, and these.
abbrev pub page_text : (List ℕ × Row → Bool) → ℕ → List (List ℕ × Row) → List ℕ
page_text served size left =
    flag (nat_le (length left) size) ∷ (to_le_bytes w32 (length (take size left)) ++ flat_map (row_text served) (take size left))
