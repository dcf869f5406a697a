use Rattle.std.proofs.Common.{◌≡◌, Some, sym, ap, ◌∙◌}
use Rattle.sliced_save.specs.Lengths.{held_weight}
use Rattle.sliced_save.specs.Mirror.{CoinPairs, coin_at}
use Rattle.sliced_save.proofs.CoinLemmas.{here_length}
use Rattle.sliced_save.proofs.coins.MirrorCoins.len_at.Goals as goal

pub returns-in-Some : goal.returns-in-Some
returns-in-Some g c =
    let here : coin_at c.self.inside.map c.args.at.now ≡ Some c.in-Some.coin.now = sym c.in-Some.ensures.value in
    let both = here_length c.self.inside.map c.args.at.now c.in-Some.coin.now c.add_held.result (rw (← c.self.invariant.1) c.self.invariant.2) here c.add_held.ensures in
    record {
      weight = both.0 ∙ ap (λ (z : CoinPairs). held_weight c.args.at.now (coin_at z c.args.at.now)) c.self.view_is;
      part = rw (← c.self.view_is) both.1;
      cost = c.tick.ensures;
    }
