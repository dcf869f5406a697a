-- The row of a name's last value, and the rows of some names.
use Rattle.std.specs.Prelude.{◌≡◌, ℕ, ◌+◌, ◌*◌, ◌≤◌, List, cond, length, take, Option, None}
use Rattle.std.specs.Map.{keys_of}
use Rattle.std.specs.Cmp.Lexicographic.{slice_cmp}
use Rattle.std.specs.List.{list_any}
use Rattle.std.specs.Option.{option_map}
use Rattle.std.specs.Ordering.{nat_cmp}
use Rattle.std.specs.Str.{bytes_eq}
use Rattle.chain_names.specs.Coins.{entry_of}
use Rattle.chain_names.specs.Tables.{NameSlots, names_in}
use Rattle.chain_names.specs.declared.coin.Item.{Item}
use Rattle.shared_chunks.specs.Pairs.{AreInOrder, value_at}
use Rattle.pin_views.specs.declared.rows.Row.{Row}

abbrev pub row_of : Item → Row
row_of item = record { height = item.height; value = item.value }

-- the row of the name's entry
abbrev pub row_at : NameSlots → List ℕ → Option Row
row_at table name = option_map row_of (entry_of (names_in table name))

-- the rows are those of these names
pub record HasRows (names : List (List ℕ)) (table : NameSlots) (rows : List (List ℕ × Row)) : Type 0 where
  pub row : (name : List ℕ) → value_at (slice_cmp nat_cmp) rows name ≡ cond (list_any (bytes_eq name) names) (row_at table name) None

-- the rows of the first names of a table, in order, and the steps that it took
pub record SoFar (table : NameSlots) (i : ℕ) (rows : List (List ℕ × Row)) (before steps : ℕ) : Type 0 where
  pub has : HasRows (take i (keys_of table)) table rows
  pub order : AreInOrder (slice_cmp nat_cmp) rows
  pub within : i ≤ length table
  pub cost : steps ≡ before + 2 * i
