-- Coins that are as wide as their fields, where one comes or goes.
use Rattle.std.proofs.Common.{◌≡◌, Bool, true, false, cond, Option, Some, None, refl, subst}
use Rattle.nmc_base.specs.declared.hashes.OutPoint.{OutPoint}
use Rattle.chain_names.specs.declared.coin.Coin.{Coin}
use Rattle.chain_names.specs.Points.{same_point, changed}
use Rattle.chain_names.specs.Measured.{IsMeasuredCoin, AreCoinsMeasured}
use Rattle.chain_names.proofs.Points.{same_point-Decides}

pub coins_changed : (coins : OutPoint → Option Coin) (at : OutPoint) (slot : Option Coin) → AreCoinsMeasured coins → ((coin : Coin) → slot ≡ Some coin → IsMeasuredCoin at coin)
    → AreCoinsMeasured (changed same_point coins at slot)
coins_changed coins at slot all here point coin = by (same_point at point) refl
  where
    by : (b : Bool) → same_point at point ≡ b → cond b slot (coins point) ≡ Some coin → IsMeasuredCoin point coin
    by true is e = subst (λ p. IsMeasuredCoin p coin) ((same_point-Decides at point).0 is) (here coin e)
    by false is e = all point coin e

pub coin_gone : (coins : OutPoint → Option Coin) (at : OutPoint) → AreCoinsMeasured coins → AreCoinsMeasured (changed same_point coins at None)
coin_gone coins at all = coins_changed coins at None all (λ coin e. absurd (no_coin coin e))
  where
    no_coin : (coin : Coin) → None ≡ Some coin → ⊥
    no_coin coin e = cc

pub coin_there : (coins : OutPoint → Option Coin) (at : OutPoint) (made : Coin) → AreCoinsMeasured coins → IsMeasuredCoin at made
    → AreCoinsMeasured (changed same_point coins at (Some made))
coin_there coins at made all here = coins_changed coins at (Some made) all (λ coin e. let same : made ≡ coin = cc in subst (IsMeasuredCoin at) same here)
