-- The coins of a row of the queue go, and come back.
use Rattle.std.specs.Prelude.{◌≡◌, ℕ, true, false, ◌==◌, List, Option, Some}
use Rattle.std.specs.List.{list_any, AllByRecursion}
use Rattle.nmc_base.specs.declared.hashes.OutPoint.{OutPoint}
use Rattle.chain_names.specs.declared.coin.Coin.{Coin}
use Rattle.chain_names.specs.declared.coin.HeldCoin.{HeldCoin}
use Rattle.chain_names.specs.Changes.{unless_named_at, restored}
use Rattle.chain_names.specs.Tables.{coins_in, coin_places, queued_in, queue_places, queue_of, is_named_at}
use Rattle.chain_names.specs.Expired.{is_held_at, IsSortedByPoint}
use Rattle.name_tables.specs.declared.tables.Tables.{Tables}

-- the coin was there, and is one of the row's
pub record IsDueCoin (coins : OutPoint → Option Coin) (row : ℕ) (held : HeldCoin) : Type 0 where
  pub held_is : coins held.at ≡ Some held.coin
  pub of_row : is_named_at row (Some held.coin) ≡ true

-- the row's coins are gone, and can be put back
pub record Expires (old new : Tables) (row : ℕ) (expired : List HeldCoin) : Type 0 where
  pub coins : coins_in new.coins ≡ (λ point. unless_named_at row (coins_in old.coins point))
  pub all : (point : OutPoint) → queued_in old.queue row point ≡ true → list_any (is_held_at point) expired ≡ true
  pub sorted : IsSortedByPoint expired
  pub back : restored expired (coins_in new.coins) ≡ coins_in old.coins
  pub each : AllByRecursion (IsDueCoin (coins_in old.coins) row) expired
  pub names : new.names ≡ old.names
  pub queue : queued_in new.queue ≡ queue_of (coins_in new.coins)
  pub places : coin_places new.coins ≡ coin_places old.coins
  pub rows : queue_places new.queue ≡ queue_places old.queue

-- ---- the way back

-- the coin is one of the row's, its places are there, and in them there is none, or another one of the row
pub record CanReturn (t : Tables) (row : ℕ) (held : HeldCoin) : Type 0 where
  pub of_row : is_named_at row (Some held.coin) ≡ true
  pub place : coin_places t.coins held.at ≡ true
  pub row_place : queue_places t.queue row held.at ≡ true
  pub free : (other : ℕ) → (row == other) ≡ false → is_named_at other (coins_in t.coins held.at) ≡ false

-- the coins are back
pub record Restores (old new : Tables) (expired : List HeldCoin) : Type 0 where
  pub coins : coins_in new.coins ≡ restored expired (coins_in old.coins)
  pub names : new.names ≡ old.names
  pub queue : queued_in new.queue ≡ queue_of (coins_in new.coins)
  pub places : coin_places new.coins ≡ coin_places old.coins
  pub rows : queue_places new.queue ≡ queue_places old.queue
