use Rattle.std.proofs.Common.{None, sym, ap, ◌∙◌}
use Rattle.chain_names.specs.Points.{same_point, changed}
use Rattle.sliced_save.specs.Lengths.{held_weight}
use Rattle.sliced_save.specs.Mirror.{CoinPairs, coin_at}
use Rattle.sliced_save.proofs.CoinLemmas.{coin_unset, coins_unset}
use Rattle.sliced_save.proofs.coins.MirrorCoins.unset.Goals as goal

pub invariant_of-self-2 : goal.invariant_of-self-2
invariant_of-self-2 g c =
    coins_unset c.self.inside.map c.unset.new.self c.args.at c.self.inside.len c.len_at.result c.self.invariant.0 c.in_ok-unset.ensures.map c.in_ok-unset.ensures.order c.self.invariant.1 c.self.invariant.2
    (c.len_at.ensures.weight ∙ ap (λ (z : CoinPairs). held_weight c.args.at (coin_at z c.args.at)) (sym c.self.view_is))

pub returns-clause-coins : goal.returns-clause-coins
returns-clause-coins g c =
    coin_unset c.self.inside.map c.unset.new.self c.args.at c.self.invariant.0.order c.in_ok-unset.ensures.map
    ∙ ap (λ (z : CoinPairs). changed same_point (coin_at z) c.args.at None) c.self.view_is
