-- What tables hold, and which places they have.
use Rattle.std.specs.Prelude.{◌≡◌, []}
use Rattle.chain_names.specs.Coins.{Maps}
use Rattle.chain_names.specs.Tables.{coins_in, names_in, queued_in, AreCoinsFilled, AreNamesFilled, IsQueueFilled}
use Rattle.name_tables.specs.declared.tables.Tables.{Tables}

-- what the tables say of coins and names
abbrev pub maps_by : Tables → Maps
maps_by t = record { coins = coins_in t.coins; names = names_in t.names }

-- the tables hold the same
pub record HoldSame (old new : Tables) : Type 0 where
  pub coins : coins_in new.coins ≡ coins_in old.coins
  pub names : names_in new.names ≡ names_in old.names
  pub queue : queued_in new.queue ≡ queued_in old.queue

-- no place is there
pub record AreEmpty (t : Tables) : Type 0 where
  pub coins : t.coins ≡ []
  pub names : t.names ≡ []
  pub queue : t.queue ≡ []

-- each place holds something
pub record AreFilled (t : Tables) : Type 0 where
  pub coins : AreCoinsFilled t.coins
  pub names : AreNamesFilled t.names
  pub queue : IsQueueFilled t.queue
