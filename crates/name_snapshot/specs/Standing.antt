-- Where a reading of the code stands: behind these makes, of which its tables are the index.
use Rattle.std.specs.Prelude.{◌≡◌, ℕ, suc, true, List, [], nat_eq, Some, None}
use Rattle.nmc_base.specs.declared.chain_ends.Base.{Base}
use Rattle.nmc_base.specs.declared.hashes.OutPoint.{OutPoint}
use Rattle.chain_names.specs.declared.coin.Coin.{Coin}
use Rattle.chain_names.specs.declared.coin.Coin.TheVariants.{New, Named}
use Rattle.chain_names.specs.declared.coin.Item.{Item}
use Rattle.chain_names.specs.Coins.{coin_of, with_operation, maps_of}
use Rattle.chain_names.specs.Points.{same_point, changed}
use Rattle.chain_names.specs.Tables.{QueueSlots, coins_in, names_in, queued_in, queue_places, queue_of}
use Rattle.name_tables.specs.Tables.{maps_by, AreFilled}
use Rattle.name_tables.specs.declared.tables.Tables.{Tables}
use Rattle.undo_records.specs.Reading.{Reads}
use Rattle.name_snapshot.specs.Makes.{last_of, MayFollowAll}
use Rattle.name_snapshot.specs.Reading.{makes_then, snapshot_from}
use Rattle.name_snapshot.specs.Text.{Told, commitment, value, StartMake, operation_of, start_of}
use Rattle.name_snapshot.specs.declared.next.Next.{Next}
use Rattle.name_snapshot.specs.declared.next.Next.TheVariants.{Head, Makes}
use Rattle.name_snapshot.specs.declared.reading.Reading.{Reading}

-- ---- the queue beside the coins

-- an outpoint is queued under a height, and no other place is new
pub record IsQueuedAt (height : ℕ) (at : OutPoint) (old new : QueueSlots) : Type 0 where
  pub queued : queued_in new ≡ changed nat_eq (queued_in old) height (changed same_point (queued_in old height) at true)
  pub places : queue_places new ≡ changed nat_eq (queue_places old) height (changed same_point (queue_places old height) at true)

-- the outpoint of a name's coin, under the coin's height
abbrev pub IsQueued : OutPoint → Coin → QueueSlots → QueueSlots → Type 0
IsQueued at (New hash height) old new = new ≡ old
IsQueued at (Named name height) old new = IsQueuedAt height at old new

-- the queue is that of the coins, and each place in the tables is filled
pub record HasItsQueue (t : Tables) : Type 0 where
  pub queue : queued_in t.queue ≡ queue_of (coins_in t.coins)
  pub filled : AreFilled t

-- ---- one make more

-- no make below gives the name a value
abbrev pub IsFirst : (List ℕ → List Item) → Told → Type 0
IsFirst names (commitment hash) = Unit {0}
IsFirst names (value name bytes) = names name ≡ []

-- the make's coin stands at its outpoint, and its value in the history of its name
pub record IsPut (m : StartMake) (old new : Tables) : Type 0 where
  pub coins : coins_in new.coins ≡ changed same_point (coins_in old.coins) m.at (Some (coin_of (operation_of m.told) m.height))
  pub names : IsFirst (names_in old.names) m.told → names_in new.names ≡ with_operation (names_in old.names) m.at (operation_of m.told) m.height
  pub queue : coins_in old.coins m.at ≡ None → HasItsQueue old → HasItsQueue new

-- ---- the makes so far

-- the tables are the index of these makes
pub record IsIndexOf (base : Base) (below : List StartMake) (t : Tables) : Type 0 where
  pub maps : maps_by t ≡ maps_of base.profile (start_of below) (suc base.height)
  pub queue : HasItsQueue t

-- no make is read before the head
abbrev pub BeginsAt : Next → List StartMake → Type 0
BeginsAt Head below = below ≡ []
BeginsAt (Makes left) below = Unit {0}

pub record IsBehind (below : List StartMake) (r : Reading) : Type 0 where
  pub begins : BeginsAt r.next below
  pub last : r.last ≡ last_of below
  pub follow : MayFollowAll r.base below
  pub index : IsIndexOf r.base below r.tables

-- what is left to be read from there on
abbrev pub left_from : Base → Next → List StartMake → Reads (List StartMake)
left_from base Head below = snapshot_from base
left_from base (Makes left) below = makes_then base left below
