-- One coin comes or goes, with the queue.
use Rattle.std.specs.Prelude.{◌≡◌, ℕ, Bool, Option, Some, None}
use Rattle.nmc_base.specs.declared.hashes.OutPoint.{OutPoint}
use Rattle.chain_names.specs.declared.coin.Coin.{Coin}
use Rattle.chain_names.specs.Points.{same_point, changed}
use Rattle.chain_names.specs.Tables.{coins_in, coin_places, queued_in, queue_places, queue_of}
use Rattle.name_tables.specs.declared.tables.Tables.{Tables}

-- a coin was taken, and the queue is still that of the coins before
pub record IsTaken (coins now : OutPoint → Option Coin) (queued : ℕ → OutPoint → Bool) (at : OutPoint) (coin : Coin) : Type 0 where
  pub queue : queued ≡ queue_of coins
  pub held : coins at ≡ Some coin
  pub now_is : now ≡ changed same_point coins at None

-- an outpoint's coin is gone
pub record TakesCoin (old new : Tables) (at : OutPoint) : Type 0 where
  pub coins : coins_in new.coins ≡ changed same_point (coins_in old.coins) at None
  pub places : coin_places new.coins ≡ coin_places old.coins
  pub names : new.names ≡ old.names
  pub queue : queued_in new.queue ≡ queue_of (coins_in new.coins)
  pub rows : queue_places new.queue ≡ queue_places old.queue

-- there is a coin at an outpoint
pub record PutsCoin (old new : Tables) (at : OutPoint) (coin : Coin) : Type 0 where
  pub coins : coins_in new.coins ≡ changed same_point (coins_in old.coins) at (Some coin)
  pub places : coin_places new.coins ≡ coin_places old.coins
  pub names : new.names ≡ old.names
  pub queue : queued_in new.queue ≡ queue_of (coins_in new.coins)
  pub rows : queue_places new.queue ≡ queue_places old.queue
