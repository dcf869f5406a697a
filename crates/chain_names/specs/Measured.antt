-- What the tables keep is as wide as its fields: outpoints, hashes and heights.
use Rattle.std.specs.Prelude.{◌≡◌, ℕ, ◌<◌, ◌^◌, List, length, Option, Some}
use Rattle.std.specs.List.{AllByRecursion}
use Rattle.nmc_base.specs.declared.hashes.OutPoint.{OutPoint}
use Rattle.nmc_base.specs.declared.limits.TheConstants.{DIGEST_LENGTH}
use Rattle.chain_names.specs.declared.coin.Coin.{Coin}
use Rattle.chain_names.specs.declared.coin.Coin.TheVariants.{New, Named}
use Rattle.chain_names.specs.declared.coin.Item.{Item}
use Rattle.chain_names.specs.Coins.{Maps}
use Rattle.chain_names.specs.Verdict.{made_at}
use Rattle.chain_names.specs.Writable.{IsWritablePoint}

abbrev pub IsMeasuredHash : Coin → Type 0
IsMeasuredHash (New hash height) = length hash.0 ≡ DIGEST_LENGTH
IsMeasuredHash (Named name height) = Unit {0}

pub record IsMeasuredCoin (point : OutPoint) (coin : Coin) : Type 0 where
  pub at : IsWritablePoint point
  pub height : made_at coin < 2 ^ 32
  pub hash : IsMeasuredHash coin

pub record IsMeasuredItem (item : Item) : Type 0 where
  pub at : IsWritablePoint item.at
  pub height : item.height < 2 ^ 32
  pub registered : item.registered < 2 ^ 32

-- each coin, with its outpoint
abbrev pub AreCoinsMeasured : (OutPoint → Option Coin) → Type 0
AreCoinsMeasured coins = (point : OutPoint) (coin : Coin) → coins point ≡ Some coin → IsMeasuredCoin point coin

-- each item of each history
abbrev pub AreItemsMeasured : (List ℕ → List Item) → Type 0
AreItemsMeasured names = (name : List ℕ) → AllByRecursion IsMeasuredItem (names name)

pub record AreMeasured (maps : Maps) : Type 0 where
  pub coins : AreCoinsMeasured maps.coins
  pub items : AreItemsMeasured maps.names
