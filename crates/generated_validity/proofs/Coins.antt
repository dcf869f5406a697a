-- Coins and histories that are changed at one key.
use Rattle.std.proofs.Common.{◌≡◌, ◌≢◌, ℕ, Bool, true, false, cond, List, Option, Some, None, refl, sym, ap, ◌∙◌, bytes_eq}
use Rattle.nmc_base.specs.Expiry.{is_expired}
use Rattle.nmc_base.specs.declared.hashes.OutPoint.{OutPoint}
use Rattle.nmc_base.specs.declared.chain_ends.Profile.TheVariants.{Regtest}
use Rattle.chain_names.specs.declared.coin.Coin.{Coin}
use Rattle.chain_names.specs.declared.coin.Coin.TheVariants.{New, Named}
use Rattle.chain_names.specs.Coins.{unless_expired}
use Rattle.chain_names.specs.Points.{same_point, changed}
use Rattle.chain_names.proofs.Points.{same_point-true}

-- what isn't expired is there
pub live_is : (height : ℕ) (coin : Option Coin) (c : Coin) → unless_expired Regtest height coin ≡ Some c → coin ≡ Some c
live_is height None c e = e
live_is height (Some (New hash made)) c e = e
live_is height (Some (Named name made)) c e = by (is_expired Regtest made height) e
  where
    by : (b : Bool) → cond b None (Some (Named name made)) ≡ Some c → Some (Named name made) ≡ Some c
    by true e = absurd cc
    by false e = e

-- where a coin was spent, those that are left were there
pub spent_was : (coins : OutPoint → Option Coin) (p q : OutPoint) (c : Coin) → changed same_point coins p None q ≡ Some c → coins q ≡ Some c
spent_was coins p q c e = by (same_point p q) e
  where
    by : (b : Bool) → cond b None (coins q) ≡ Some c → coins q ≡ Some c
    by true e = absurd cc
    by false e = e

pub elsewhere : {V : Type 0} (f : OutPoint → V) (p q : OutPoint) (v w : V) → same_point p q ≡ false → f q ≡ w → changed same_point f p v q ≡ w
elsewhere f p q v w other here = rw other here

pub named_elsewhere : {V : Type 0} (f : List ℕ → V) (p q : List ℕ) (v : V) → bytes_eq p q ≡ false → changed bytes_eq f p v q ≡ f q
named_elsewhere f p q v other = rw other refl

-- two outpoints with two coins
pub two_coins : (coins : OutPoint → Option Coin) (p q : OutPoint) (c d : Coin) → coins p ≡ Some c → coins q ≡ Some d → c ≢ d → same_point p q ≡ false
two_coins coins p q c d at at' differ = by (same_point p q) refl
  where
    by : (b : Bool) → same_point p q ≡ b → b ≡ false
    by true e =
        let some : Some c ≡ Some d = sym at ∙ ap coins (same_point-true p q e) ∙ at' in
        let same : c ≡ d = cc in
        absurd (differ same)
    by false e = refl
