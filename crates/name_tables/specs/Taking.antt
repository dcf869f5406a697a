-- The coins at listed outpoints go, where they are a row's.
use Rattle.std.specs.Prelude.{◌≡◌, ℕ, List}
use Rattle.std.specs.List.{AllByRecursion}
use Rattle.nmc_base.specs.declared.hashes.OutPoint.{OutPoint}
use Rattle.chain_names.specs.declared.coin.HeldCoin.{HeldCoin}
use Rattle.chain_names.specs.Changes.{cleared, restored}
use Rattle.chain_names.specs.Tables.{coins_in, coin_places, queued_in, queue_places, queue_of}
use Rattle.chain_names.specs.Expired.{IsSortedByPoint}
use Rattle.name_tables.specs.Expiring.{IsDueCoin}
use Rattle.name_tables.specs.declared.tables.Tables.{Tables}

-- the row's coins at these outpoints are gone, and can be put back
pub record TakesDue (old new : Tables) (row : ℕ) (points : List OutPoint) (expired : List HeldCoin) : Type 0 where
  pub coins : coins_in new.coins ≡ cleared row points (coins_in old.coins)
  pub back : restored expired (coins_in new.coins) ≡ coins_in old.coins
  pub each : AllByRecursion (IsDueCoin (coins_in old.coins) row) expired
  pub sorted : IsSortedByPoint expired
  pub names : new.names ≡ old.names
  pub queue : queued_in new.queue ≡ queue_of (coins_in new.coins)
  pub places : coin_places new.coins ≡ coin_places old.coins
  pub rows : queue_places new.queue ≡ queue_places old.queue
