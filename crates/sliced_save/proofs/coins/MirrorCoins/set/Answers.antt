use Rattle.std.proofs.Common.{◌≡◌, Some, sym, ap, ◌∙◌}
use Rattle.nmc_base.specs.Hash.{outpoint_cmp}
use Rattle.chain_names.specs.Points.{same_point, changed}
use Rattle.shared_chunks.specs.Pairs.{with_pair}
use Rattle.sliced_save.specs.Lengths.{held_weight}
use Rattle.sliced_save.specs.Mirror.{CoinPairs, coin_at}
use Rattle.sliced_save.proofs.CoinLemmas.{coin_set, coins_set}
use Rattle.sliced_save.proofs.coins.MirrorCoins.set.Goals as goal

pub invariant_of-self-2 : goal.invariant_of-self-2
invariant_of-self-2 g c =
    let is : c.set.new.self ≡ with_pair outpoint_cmp c.self.inside.map c.args.at c.args.coin.now = cc (c.in_ok-set.ensures.ok, c.in_ok-copy.ensures) in
    coins_set c.self.inside.map c.set.new.self c.args.at c.args.coin.now c.self.inside.len c.len_at.result c.add_held-len.result c.self.invariant.0
    (record { short = c.requires; measured = c.read_coin.ensures }) is c.in_ok-set.ensures.order c.self.invariant.1
    (c.len_at.ensures.weight ∙ ap (λ (z : CoinPairs). held_weight c.args.at (coin_at z c.args.at)) (sym c.self.view_is)) c.add_held-len.ensures c.if-len-gt-MOST.false

pub returns-clause-coins : goal.returns-clause-coins
returns-clause-coins g c =
    let is : c.set.new.self ≡ with_pair outpoint_cmp c.self.inside.map c.args.at c.args.coin.now = cc (c.in_ok-set.ensures.ok, c.in_ok-copy.ensures) in
    coin_set c.self.inside.map c.set.new.self c.args.at c.args.coin.now is ∙ ap (λ (z : CoinPairs). changed same_point (coin_at z) c.args.at (Some c.args.coin.now)) c.self.view_is
