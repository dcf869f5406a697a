-- What holds of histories and records whatever their registration heights are.
use Rattle.std.specs.Prelude.{◌≡◌, ℕ, List, length, Option}
use Rattle.std.specs.List.{AllByRecursion}
use Rattle.nmc_base.specs.declared.hashes.OutPoint.{OutPoint}
use Rattle.chain_names.specs.declared.coin.Coin.{Coin}
use Rattle.chain_names.specs.declared.undo.Undo.{Undo}
use Rattle.chain_names.specs.Limits.{IsWithinLimits}
use Rattle.chain_names.specs.Seen.{seen_undo}
use Rattle.chain_names.specs.State.{FitsItem}
use Rattle.chain_names.specs.Tables.{NameSlots, names_in, name_places, AreNamesFilled}
use Rattle.name_tables.specs.Parts.{newest_first}
use Rattle.sound_states.specs.Walk.{HasFewCoins}
use Rattle.registrations.specs.Images.{AreWritable}

abbrev pub IsWithin : Undo → Type 0
IsWithin undo = IsWithinLimits (seen_undo undo)

abbrev pub AreShort : NameSlots → Type 0
AreShort names = (name : List ℕ) → AllByRecursion (FitsItem name) (names_in names name)

-- No place is gone or new, and each place holds something where each did. There are as many records. What was within its limits
-- is, and what had a text has one: names and values, records, and the number of all coins.
pub record KeepsLimits (old new : NameSlots) (before after : List Undo) : Type 0 where
  pub places : name_places new ≡ name_places old
  pub filled : AreNamesFilled old → AreNamesFilled new
  pub short : AreShort old → AreShort new
  pub count : length after ≡ length before
  pub within : AllByRecursion IsWithin before → AllByRecursion IsWithin after
  pub writable : AreWritable (names_in old) (newest_first before) → AreWritable (names_in new) (newest_first after)
  pub few : (coins : OutPoint → Option Coin) → HasFewCoins (record { coins = coins; names = names_in old }) (newest_first before)
      → HasFewCoins (record { coins = coins; names = names_in new }) (newest_first after)
