use Rattle.states_below.specs.Bottom.{bottom_name, coin_low, AllNamesPass, AllPointsPass}
use Rattle.states_below.specs.Undoing.{maps_below}
use Rattle.states_below.specs.Views.{coins_below}
use Rattle.sound_states.specs.Walk.{IsBottom}
use Rattle.states_below.proofs.TellLemmas.{tells_as, told_no, told_yes}
use Rattle.states_below.proofs.BottomLemmas.{bottom_from, names_of_bottom, points_of_bottom}
use Rattle.states_below.proofs.below.Below.at_bottom.Goals as goal

pub returns : goal.returns
returns c =
    let maps = maps_below c.args.self.now in
    tells_as (AllPointsPass (λ point. coin_low c.args.base (coins_below c.args.self.now.coins point))) (IsBottom c.args.profile c.args.base maps) c.coins_at_bottom.result
    (bottom_from c.args.profile c.args.base maps
    (told_yes (AllNamesPass (bottom_name c.args.profile c.args.base maps)) c.in_ok-names_at_bottom.field-0 c.in_ok-names_at_bottom.ensures c.if-not-branch.false))
    (points_of_bottom c.args.profile c.args.base maps) c.coins_at_bottom.ensures

pub returns-then-not-branch : goal.returns-then-not-branch
returns-then-not-branch c = λ bottom.
    let maps = maps_below c.args.self.now in
    told_no (AllNamesPass (bottom_name c.args.profile c.args.base maps)) c.in_ok-names_at_bottom.field-0 c.in_ok-names_at_bottom.ensures c.if-not-branch.true
    (names_of_bottom c.args.profile c.args.base maps bottom)
