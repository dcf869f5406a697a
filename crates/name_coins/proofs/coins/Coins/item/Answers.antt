use Rattle.std.proofs.Common.{◌≡◌, Option, Some, None, is_some, sym, ap, ◌∙◌, true≢false}
use Rattle.std.specs.Map.{lookup}
use Rattle.chain_names.specs.declared.coin.Coin.{Coin}
use Rattle.chain_names.specs.Points.{same_point}
use Rattle.chain_names.specs.Tables.{filled_by}
use Rattle.name_coins.proofs.coins.Coins.item.Goals as goal

pub unreachable-requires : goal.unreachable-requires
unreachable-requires g c =
    let empty : lookup (same_point c.in_ok-at.at.now) c.self.inside.places.entries ≡ Some None = c.in_ok-at.ensures.value ∙ ap Some c.in-None.is in
    let filled : is_some (lookup (same_point c.in_ok-at.at.now) c.self.inside.places.entries) ≡ is_some (filled_by (lookup (same_point c.in_ok-at.at.now) c.self.inside.places.entries)) =
    rw c.self.view_is (c.requires.filled c.in_ok-at.at.now) in
    true≢false (sym (ap is_some empty) ∙ filled ∙ ap (λ (e : Option (Option Coin)). is_some (filled_by e)) empty)

pub returns-clause-measured : goal.returns-clause-measured
returns-clause-measured g c = c.self.invariant.0 c.in_ok-at.at.now c.in-Some.coin (ap filled_by c.in_ok-at.ensures.value ∙ c.in-Some.is)
