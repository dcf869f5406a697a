-- The queue beside the coins.
use Rattle.std.specs.Prelude.{◌≡◌, ℕ, true, nat_eq}
use Rattle.nmc_base.specs.declared.hashes.OutPoint.{OutPoint}
use Rattle.chain_names.specs.declared.coin.Coin.{Coin}
use Rattle.chain_names.specs.declared.coin.Coin.TheVariants.{New, Named}
use Rattle.chain_names.specs.Points.{same_point, changed}
use Rattle.chain_names.specs.Tables.{QueueSlots, coins_in, queued_in, queue_places, queue_of}
use Rattle.name_tables.specs.Tables.{AreFilled}
use Rattle.name_tables.specs.declared.tables.Tables.{Tables}

-- an outpoint is queued under a height, and no other place is new
pub record IsQueuedAt (height : ℕ) (at : OutPoint) (old new : QueueSlots) : Type 0 where
  pub queued : queued_in new ≡ changed nat_eq (queued_in old) height (changed same_point (queued_in old height) at true)
  pub places : queue_places new ≡ changed nat_eq (queue_places old) height (changed same_point (queue_places old height) at true)

-- the outpoint of a name's coin, under the coin's height
abbrev pub IsQueued : OutPoint → Coin → QueueSlots → QueueSlots → Type 0
IsQueued at (New hash height) old new = new ≡ old
IsQueued at (Named name height) old new = IsQueuedAt height at old new

-- the queue is that of the coins, and each place in the tables is filled
pub record HasItsQueue (t : Tables) : Type 0 where
  pub queue : queued_in t.queue ≡ queue_of (coins_in t.coins)
  pub filled : AreFilled t
