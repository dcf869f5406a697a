-- A name moves from the outpoint that is spent to the one that is made, and back.
use Rattle.std.specs.Prelude.{◌≡◌, ℕ, true, List, Option, Some, None, nat_eq}
use Rattle.std.specs.Str.{bytes_eq}
use Rattle.nmc_base.specs.declared.hashes.OutPoint.{OutPoint}
use Rattle.chain_names.specs.declared.coin.Coin.{Coin}
use Rattle.chain_names.specs.declared.coin.Coin.TheVariants.{Named}
use Rattle.chain_names.specs.Points.{same_point, changed}
use Rattle.chain_names.specs.declared.coin.Item.{Item}
use Rattle.chain_names.specs.Coins.{entry_of, registered_behind, with_value}
use Rattle.chain_names.specs.Changes.{without_entry}
use Rattle.chain_names.specs.Tables.{coins_in, coin_places, names_in, name_places, queued_in, queue_places, queue_of, AreNamesFilled}
use Rattle.name_tables.specs.declared.tables.Tables.{Tables}
use Rattle.name_tables.specs.declared.moving.Move.{Move}
use Rattle.name_tables.specs.declared.moving.Move.TheVariants.{Opening, Update}
use Rattle.name_tables.specs.declared.moving.Shift.{Shift}

-- the height at which the registration of a value began: an opening begins one, and an update goes on with that of the
-- value before
abbrev pub registered_by : Move → Option Item → ℕ → ℕ
registered_by Opening before height = height
registered_by Update before height = registered_behind before height

-- the value that a move gives a name, behind the value before
abbrev pub given : Move → Option Item → ℕ → OutPoint → List ℕ → Item
given move before height point value = record { height = height; registered = registered_by move before height; at = point; value = value }

-- a name moved to the outpoint of its new value, and what it left
pub record Shifts (old new : Tables) (spent : OutPoint) (name : List ℕ) (item : Item) (left : Shift) : Type 0 where
  pub held : coins_in old.coins spent ≡ Some left.coin
  pub name_is : left.name ≡ name
  pub before_is : left.before ≡ entry_of (names_in old.names name)
  pub coins : coins_in new.coins ≡ changed same_point (changed same_point (coins_in old.coins) spent None) item.at (Some (Named name item.height))
  pub places : coin_places new.coins ≡ changed same_point (coin_places old.coins) item.at true
  pub names : names_in new.names ≡ with_value (names_in old.names) name item
  pub name_places : name_places new.names ≡ changed bytes_eq (name_places old.names) name true
  pub queue : queued_in new.queue ≡ queue_of (coins_in new.coins)
  pub rows : queue_places new.queue ≡ changed nat_eq (queue_places old.queue) item.height (changed same_point (queue_places old.queue item.height) item.at true)

-- where memory runs out: the places of the outpoint that was to be made may be there, and no other is new or gone
pub record MayHavePlaces (old new : Tables) (made : OutPoint) (height : ℕ) : Type 0 where
  pub coins : changed same_point (coin_places new.coins) made true ≡ changed same_point (coin_places old.coins) made true
  pub kept : (point : OutPoint) → coin_places old.coins point ≡ true → coin_places new.coins point ≡ true
  pub queue : changed nat_eq (queue_places new.queue) height (changed same_point (queue_places new.queue height) made true)
      ≡ changed nat_eq (queue_places old.queue) height (changed same_point (queue_places old.queue height) made true)
  pub rows_kept : (row : ℕ) (point : OutPoint) → queue_places old.queue row point ≡ true → queue_places new.queue row point ≡ true
  pub names : name_places new.names ≡ name_places old.names

-- a name moved back
pub record ShiftsBack (old new : Tables) (spent : OutPoint) (coin : Coin) (made : OutPoint) (name : List ℕ) : Type 0 where
  pub coins : coins_in new.coins ≡ changed same_point (changed same_point (coins_in old.coins) made None) spent (Some coin)
  pub places : coin_places new.coins ≡ coin_places old.coins
  pub names : names_in new.names ≡ changed bytes_eq (names_in old.names) name (without_entry (names_in old.names name))
  pub names_filled : AreNamesFilled new.names
  pub queue : queued_in new.queue ≡ queue_of (coins_in new.coins)
  pub rows : queue_places new.queue ≡ queue_places old.queue
