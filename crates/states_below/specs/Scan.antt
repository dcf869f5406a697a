-- Going over all coins of a table.
use Rattle.std.specs.Prelude.{◌≡◌, ℕ, suc, Bool, true, false, not, ◌&&◌, nat_le, List, Option, Some, None, Result, Ok, Err}
use Rattle.nmc_base.specs.declared.hashes.OutPoint.{OutPoint}
use Rattle.nmc_base.specs.declared.chain_ends.Profile.{Profile}
use Rattle.nmc_base.specs.declared.no_memory.NoMemory.{NoMemory}
use Rattle.nmc_base.specs.Expiry.{is_expired}
use Rattle.chain_names.specs.declared.coin.Coin.{Coin}
use Rattle.chain_names.specs.declared.coin.Coin.TheVariants.{New, Named}
use Rattle.chain_names.specs.declared.coin.Item.{Item}
use Rattle.chain_names.specs.Coins.{entry_of}
use Rattle.chain_names.specs.Tables.{CoinSlots, coins_in}
use Rattle.states_below.specs.StepTests.{all_by}
use Rattle.states_below.specs.Tests.{is_item_at}

-- a coin is no higher than the tip; that of a name is the name's last item, and stands in the next block
abbrev pub sound_coin : Profile → ℕ → (List ℕ → List Item) → OutPoint → Coin → Bool
sound_coin profile tip names point (New hash made) = nat_le made tip
sound_coin profile tip names point (Named name made) = nat_le made tip && (not (is_expired profile made (suc tip)) && is_item_at made point (entry_of (names name)))

abbrev pub AllPass : (OutPoint → Coin → Bool) → CoinSlots → Type 0
AllPass test slots = (point : OutPoint) (coin : Coin) → coins_in slots point ≡ Some coin → test point coin ≡ true

abbrev pub TellsWhether : Type 0 → Result Bool NoMemory → Type 0
TellsWhether P (Ok true) = P
TellsWhether P (Ok false) = P → ⊥
TellsWhether P (Err e) = Unit {0}

abbrev pub slot_passes : (OutPoint → Coin → Bool) → OutPoint × Option Coin → Bool
slot_passes test (point, None) = true
slot_passes test (point, Some coin) = test point coin

abbrev pub all_pass : (OutPoint → Coin → Bool) → CoinSlots → Bool
all_pass test = all_by (slot_passes test)
