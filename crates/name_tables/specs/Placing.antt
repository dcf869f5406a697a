-- Places are made, for the members of a list.
use Rattle.std.specs.Prelude.{◌≡◌, ℕ, Bool, true, false, List}
use Rattle.std.specs.List.{list_any}
use Rattle.nmc_base.specs.declared.hashes.OutPoint.{OutPoint}
use Rattle.chain_names.specs.Tables.{coin_places, queue_places}
use Rattle.name_tables.specs.Tables.{HoldSame}
use Rattle.name_tables.specs.declared.tables.Tables.{Tables}

-- the places that were there are there
pub record Grows (old new : Tables) : Type 0 where
  pub coins : (point : OutPoint) → coin_places old.coins point ≡ true → coin_places new.coins point ≡ true
  pub rows : (height : ℕ) (point : OutPoint) → queue_places old.queue height point ≡ true → queue_places new.queue height point ≡ true

-- the tables hold the same, and have more places, for members of the list alone
pub record PlacesOnly {X : Type 0} (at : OutPoint → X → Bool) (row : ℕ → OutPoint → X → Bool) (old new : Tables) (xs : List X) : Type 0 where
  pub same : HoldSame old new
  pub names : new.names ≡ old.names
  pub grows : Grows old new
  pub coins : (point : OutPoint) → coin_places new.coins point ≡ true → list_any (at point) xs ≡ false → coin_places old.coins point ≡ true
  pub rows : (height : ℕ) (point : OutPoint) → queue_places new.queue height point ≡ true → list_any (row height point) xs ≡ false → queue_places old.queue height point ≡ true
