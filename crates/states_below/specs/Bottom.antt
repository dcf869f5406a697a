-- What is left at the base is gone through.
use Rattle.std.specs.Prelude.{◌≡◌, ℕ, Bool, true, ◌&&◌, ◌==◌, nat_le, List, Option, Some, None}
use Rattle.std.specs.Borrow.{Bor}
use Rattle.std.specs.Option.{option_copied}
use Rattle.nmc_base.specs.declared.hashes.OutPoint.{OutPoint}
use Rattle.nmc_base.specs.declared.chain_ends.Profile.{Profile}
use Rattle.chain_names.specs.declared.coin.Coin.{Coin}
use Rattle.chain_names.specs.declared.coin.Item.{Item}
use Rattle.chain_names.specs.Coins.{Maps, entry_of}
use Rattle.chain_names.specs.Verdict.{made_at}
use Rattle.states_below.specs.StepTests.{all_by, has_its_coin}

abbrev pub entry_low : ℕ → Option Item → Bool
entry_low base None = true
entry_low base (Some item) = nat_le item.height base

abbrev pub begins_registration : Item → Bool
begins_registration item = item.registered == item.height

-- No item of the name is higher than the base, each begins its registration, and a last item that stands in the next block has
-- its coin.
abbrev pub bottom_name : Profile → ℕ → Maps → List ℕ → Bool
bottom_name profile base maps name = entry_low base (entry_of (maps.names name)) && (all_by begins_registration (maps.names name) && has_its_coin profile base maps name)

abbrev pub coin_low : ℕ → Option Coin → Bool
coin_low base None = true
coin_low base (Some coin) = nat_le (made_at coin) base

-- a coin that lies over the table isn't too high
abbrev pub layer_low : ℕ → OutPoint × Option (Bor Coin) → Bool
layer_low base entry = coin_low base (option_copied entry.1)

abbrev pub AllNamesPass : (List ℕ → Bool) → Type 0
AllNamesPass test = (name : List ℕ) → test name ≡ true

abbrev pub AllPointsPass : (OutPoint → Bool) → Type 0
AllPointsPass test = (point : OutPoint) → test point ≡ true
