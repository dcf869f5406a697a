-- The image of what is listed, and what is known of its parts.
use Rattle.std.specs.Prelude.{◌≡◌, ℕ, ◌^◌, ◌≤◌, List, length, map, reverse}
use Rattle.nmc_base.specs.declared.chain_ends.Base.{Base}
use Rattle.chain_names.specs.Coins.{Maps}
use Rattle.chain_names.specs.Seen.{seen_undo}
use Rattle.chain_names.specs.Undo.{UndoRecord}
use Rattle.chain_names.specs.declared.undo.Undo.{Undo}
use Rattle.std.specs.List.{AllByRecursion}
use Rattle.chain_names.specs.Tables.{CoinSlots, NameSlots}
use Rattle.undo_records.specs.Measured.{IsMeasured}
use Rattle.name_tables.specs.declared.parts.Parts.{Parts}
use Rattle.image_grammar.specs.Image.{Image, HasText, IsImageOf}
use Rattle.image_writer.specs.declared.listed.Listed.{Listed}
use Rattle.image_writer.specs.Ordered.{ListsCoins, ListsNames}
use Rattle.image_writer.specs.declared.listed.CoinPlace.{CoinPlace}
use Rattle.image_writer.specs.declared.listed.NamePlace.{NamePlace}
use Rattle.image_writer.specs.Places.{held_at, history_at, IsCoinAt, IsNameAt}

-- the records from the oldest on, and the coins and names as they are listed
abbrev pub image_by : Base → List Undo → Listed → Image
image_by base undos l = record {
  base = base;
  undos = map seen_undo undos;
  coins = map (held_at l.coin_table) l.coins.items;
  names = map (history_at l.name_table.now) l.names.items;
}

-- the coins of a table, in order, each by its place
pub record HasCoins (slots : CoinSlots) (coins : List CoinPlace) : Type 0 where
  pub in_order : ListsCoins slots (map (held_at slots) coins)
  pub there : AllByRecursion (IsCoinAt slots) coins

-- the names of a table, in order, each by its place
pub record HasNames (slots : NameSlots) (names : List NamePlace) : Type 0 where
  pub in_order : ListsNames slots (map (history_at slots) names)
  pub there : AllByRecursion (IsNameAt slots) names

-- the coins and names of the parts, in order
pub record ListsParts (parts : Parts) (l : Listed) : Type 0 where
  pub coins_are : HasCoins l.coin_table l.coins.items
  pub names_are : HasNames l.name_table.now l.names.items
  pub coin_table_is : l.coin_table ≡ parts.coins
  pub name_table_is : l.name_table.now ≡ parts.names

abbrev pub IsWide : Undo → Type 0
IsWide undo = IsMeasured (seen_undo undo)

-- the image of the state is one that is read again, where its text is no longer than 2^37 bytes
abbrev pub IsReadAgain : Base → List UndoRecord → Maps → List ℕ → Type 0
IsReadAgain base undos maps text = length text ≤ 2 ^ 37 → (image : Image) → IsImageOf base (reverse undos) maps image → HasText image
