-- How long what is listed may be.
use Rattle.std.specs.Prelude.{ℕ, ◌≤◌, List, length}
use Rattle.std.specs.List.{AllByRecursion}
use Rattle.nmc_base.specs.declared.limits.TheConstants.{LONGEST_VALUE}
use Rattle.chain_names.specs.declared.coin.Item.{Item}
use Rattle.chain_names.specs.Tables.{CoinSlots, NameSlots, names_in}
use Rattle.chain_names.specs.Writable.{IsWritableName, HasShortName}
use Rattle.image_writer.specs.declared.listed.CoinPlace.{CoinPlace}
use Rattle.image_writer.specs.declared.listed.NamePlace.{NamePlace}
use Rattle.image_writer.specs.declared.listed.Listed.{Listed}
use Rattle.image_writer.specs.Places.{held_at, name_at, IsCoinAt, IsNameAt}

abbrev pub IsShortItem : Item → Type 0
IsShortItem item = length item.value ≤ LONGEST_VALUE

-- a coin stands at the place, and its name is no longer than it may be
pub record IsShortCoin (slots : CoinSlots) (coin : CoinPlace) : Type 0 where
  pub there : IsCoinAt slots coin
  pub short : HasShortName (held_at slots coin).coin

pub record IsShortName (slots : NameSlots) (name : NamePlace) : Type 0 where
  pub there : IsNameAt slots name
  pub short : IsWritableName (name_at slots name)

-- no name and no value is longer than it may be
pub record AreShort (l : Listed) : Type 0 where
  pub coins : AllByRecursion (IsShortCoin l.coin_table) l.coins.items
  pub names : AllByRecursion (IsShortName l.name_table.now) l.names.items
  pub items : (name : List ℕ) → AllByRecursion IsShortItem (names_in l.name_table.now name)
