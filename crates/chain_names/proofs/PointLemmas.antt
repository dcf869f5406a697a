-- Lists of held coins, by their outpoints.
use Rattle.std.proofs.Common.{◌≡◌, Bool, true, false, cond, List, [], ◌∷◌, refl, sym, ap, subst, ◌∙◌}
use Rattle.std.specs.Prelude.{Option, Some, None}
use Rattle.std.specs.List.{AllByRecursion}
use Rattle.nmc_base.specs.declared.hashes.OutPoint.{OutPoint}
pub use Rattle.nmc_base.proofs.ListLemmas.{all-weaker, all-append}
use Rattle.chain_names.specs.declared.coin.Coin.{Coin}
use Rattle.chain_names.specs.declared.coin.HeldCoin.{HeldCoin}
use Rattle.chain_names.specs.Points.{same_point, changed}
use Rattle.chain_names.proofs.Points.{same_point-true}
use Rattle.chain_names.specs.Expired.{points_of}

-- two points with different coins are two
pub apart : (coins : OutPoint → Option Coin) (a b : OutPoint) (coin : Coin) → coins a ≡ None → coins b ≡ Some coin → same_point a b ≡ false
apart coins a b coin free held = by (same_point a b) refl
  where
    by : (x : Bool) → same_point a b ≡ x → x ≡ false
    by true e =
        let bad : None ≡ Some coin = sym free ∙ ap coins (same_point-true a b e) ∙ held in
        absurd cc
    by false e = refl

-- what holds of a coin that is put somewhere, and of all that were there, holds of each coin behind it
pub put_or_there : (P : OutPoint → Coin → Type 0) (coins : OutPoint → Option Coin) (point : OutPoint) (put : Coin) → P point put
    → ((q : OutPoint) (coin : Coin) → coins q ≡ Some coin → P q coin) → (q : OutPoint) (coin : Coin) → changed same_point coins point (Some put) q ≡ Some coin → P q coin
put_or_there P coins point put here there q coin = by (same_point point q) refl
  where
    by : (b : Bool) → same_point point q ≡ b → cond b (Some put) (coins q) ≡ Some coin → P q coin
    by true is e =
        let same : put ≡ coin = cc in
        subst (P q) same (subst (λ p. P p put) (same_point-true point q is) here)
    by false is e = there q coin e

pub all-points : (P : OutPoint → Type 0) (helds : List HeldCoin) → AllByRecursion (λ held. P held.at) helds → AllByRecursion P (points_of helds)
all-points P [] all = tt
all-points P (held ∷ helds) all = (all.0, all-points P helds all.1)

pub all-coins : (P : OutPoint → Type 0) (helds : List HeldCoin) → AllByRecursion P (points_of helds) → AllByRecursion (λ held. P held.at) helds
all-coins P [] all = tt
all-coins P (held ∷ helds) all = (all.0, all-coins P helds all.1)
