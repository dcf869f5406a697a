use Rattle.states_below.specs.Bottom.{coin_low, AllPointsPass}
use Rattle.states_below.specs.Scan.{AllPass}
use Rattle.states_below.specs.Views.{coins_below}
use Rattle.states_below.proofs.BottomLemmas.{each_point}
use Rattle.states_below.proofs.TellLemmas.{tells_as}
use Rattle.states_below.proofs.below.Below.coins_at_bottom.Goals as goal

pub returns : goal.returns
returns g c =
    let v = c.args.self.now.coins in
    tells_as (AllPass (λ point coin. coin_low c.args.base (coins_below v point)) v.under.now) (AllPointsPass (λ point. coin_low c.args.base (coins_below v point))) c.table_at_bottom.result
    (each_point c.args.base v (c.layer_at_bottom.ensures.yes c.if-not-layer_at_bottom.false)) (λ all point coin e. all point) c.table_at_bottom.ensures
