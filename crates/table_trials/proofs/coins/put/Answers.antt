use Rattle.std.proofs.Common.{◌≡◌, Bool, true, false, cond, Option, Some, is_some, refl, sym, ap, ◌∙◌}
use Rattle.nmc_base.specs.declared.hashes.OutPoint.{OutPoint}
use Rattle.chain_names.specs.declared.coin.Coin.{Coin}
use Rattle.chain_names.specs.Points.{same_point, changed}
use Rattle.chain_names.proofs.Changed.{same_point-at_changed}
use Rattle.table_trials.proofs.coins.put.Goals as goal

pub put-requires : goal.put-requires
put-requires g c = record { placed = same_point-at_changed _ _ _ _ c.in_ok-place.ensures.ok }

-- one more place, with one more coin
filled_still : (places before : OutPoint → Bool) (coins held : OutPoint → Option Coin) (at : OutPoint) (coin : Coin) → places ≡ changed same_point before at true
    → coins ≡ changed same_point held at (Some coin) → ((point : OutPoint) → before point ≡ is_some (held point)) → (point : OutPoint) → places point ≡ is_some (coins point)
filled_still places before coins held at coin placed put filled point =
    ap (λ f. f point) placed ∙ by (same_point at point) ∙ ap (λ f. is_some (f point)) (sym put)
  where
    by : (b : Bool) → cond b true (before point) ≡ is_some (cond b (Some coin) (held point))
    by true = refl
    by false = filled point

pub returns : goal.returns
returns g c filled = filled_still _ _ _ _ _ _ (c.put.ensures.places ∙ c.in_ok-place.ensures.ok) (rw c.in_ok-place.ensures.coins at c.put.ensures.coins) filled
