-- The steps of a name's move: copies and places, and then the move itself.
use Rattle.std.specs.Prelude.{◌≡◌, ℕ, ◌≤◌, true, List, Some, None, nat_eq}
use Rattle.std.specs.Str.{bytes_eq}
use Rattle.nmc_base.specs.declared.hashes.OutPoint.{OutPoint}
use Rattle.chain_names.specs.declared.coin.Coin.TheVariants.{Named}
use Rattle.chain_names.specs.Points.{same_point, changed}
use Rattle.chain_names.specs.declared.coin.Item.{Item}
use Rattle.chain_names.specs.Coins.{entry_of, with_value}
use Rattle.chain_names.specs.Tables.{coins_in, coin_places, names_in, room_in, name_places, queued_in, queue_places, queue_of}
use Rattle.name_tables.specs.declared.tables.Tables.{Tables}
use Rattle.name_tables.specs.declared.moving.Shift.{Shift}
use Rattle.name_tables.specs.declared.moving.Copies.{Copies}

-- what a name's move needs of its own
pub record IsCopied (t : Tables) (name : List ℕ) (item : Item) (copies : Copies) : Type 0 where
  pub own : copies.own ≡ name
  pub kept : copies.kept ≡ name
  pub item_is : copies.item ≡ item
  pub before : copies.before ≡ entry_of (names_in t.names name)

-- the places that hold nothing yet
pub record HasPlaces (old new : Tables) (made : OutPoint) (name : List ℕ) (height : ℕ) : Type 0 where
  pub coins : coin_places new.coins ≡ changed same_point (coin_places old.coins) made true
  pub queue : queue_places new.queue ≡ changed nat_eq (queue_places old.queue) height (changed same_point (queue_places old.queue height) made true)
  pub names : name_places new.names ≡ changed bytes_eq (name_places old.names) name true
  pub room : 1 ≤ room_in new.names name

-- a name moved, in places that were there
pub record MovesName (old new : Tables) (spent : OutPoint) (name : List ℕ) (copies : Copies) (left : Shift) : Type 0 where
  pub held : coins_in old.coins spent ≡ Some left.coin
  pub name_is : left.name ≡ copies.kept
  pub before_is : left.before ≡ copies.before
  pub coins : coins_in new.coins ≡ changed same_point (changed same_point (coins_in old.coins) spent None) copies.item.at (Some (Named copies.own copies.item.height))
  pub places : coin_places new.coins ≡ coin_places old.coins
  pub names : names_in new.names ≡ with_value (names_in old.names) name copies.item
  pub name_places : name_places new.names ≡ name_places old.names
  pub queue : queued_in new.queue ≡ queue_of (coins_in new.coins)
  pub rows : queue_places new.queue ≡ queue_places old.queue
