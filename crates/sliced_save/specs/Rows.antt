-- The rows of names, by their histories: each name with its last item, in the order of names.
use Rattle.std.specs.Prelude.{◌≡◌, ℕ, ◌≤◌, List, [], ◌∷◌, Option, Some, None}
use Rattle.std.specs.Cmp.Lexicographic.{slice_cmp}
use Rattle.std.specs.Option.{option_map}
use Rattle.std.specs.Ordering.{nat_cmp}
use Rattle.nmc_base.specs.Heights.{highest}
use Rattle.chain_names.specs.Coins.{entry_of}
use Rattle.chain_names.specs.Meaning.{FitsName}
use Rattle.chain_names.specs.declared.coin.Item.{Item}
use Rattle.shared_chunks.specs.Pairs.{AreInOrder, value_at}
use Rattle.pin_views.specs.Rows.{row_of}
use Rattle.pin_views.specs.declared.rows.Row.{Row}
use Rattle.sliced_save.specs.Mirror.{NamePairs}

-- the row of each name, as names are ordered byte by byte
abbrev pub row_in : List (List ℕ × Row) → List ℕ → Option Row
row_in rows name = value_at (slice_cmp nat_cmp) rows name

-- The rows are in the order of their names. A name has one where it has a value, and it is that of the last.
pub record AreRowsOf (histories : List ℕ → List Item) (rows : List (List ℕ × Row)) : Type 0 where
  pub order : AreInOrder (slice_cmp nat_cmp) rows
  pub row : (name : List ℕ) → row_in rows name ≡ option_map row_of (entry_of (histories name))

-- the name and the value of a row are within their lengths, and its height is one that a chain may have
pub record FitsRow (name : List ℕ) (row : Row) : Type 0 where
  pub lengths : FitsName name row.value
  pub low : row.height ≤ highest

-- the row that an item of the name would have fits
abbrev pub HasFitRow : List ℕ → Item → Type 0
HasFitRow name item = FitsRow name (row_of item)

-- ---- of the names of a mirror

-- a name's row in front of others, where it has a last item
abbrev pub with_row : List ℕ → Option Item → List (List ℕ × Row) → List (List ℕ × Row)
with_row name None rows = rows
with_row name (Some item) rows = (name, row_of item) ∷ rows

-- of each name the row of its last item
abbrev pub rows_of : NamePairs → List (List ℕ × Row)
rows_of [] = []
rows_of (pair ∷ pairs) = with_row pair.0 (entry_of pair.1) (rows_of pairs)
