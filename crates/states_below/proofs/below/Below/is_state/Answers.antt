use Rattle.std.proofs.Common.{sym, subst}
use Rattle.chain_names.specs.State.{IsState}
use Rattle.chain_names.specs.Tables.{names_in}
use Rattle.states_below.specs.Bottom.{AllNamesPass}
use Rattle.states_below.specs.Scan.{sound_coin, AllPass}
use Rattle.states_below.specs.Top.{top_name}
use Rattle.states_below.specs.Undoing.{maps_below}
use Rattle.states_below.proofs.TellLemmas.{tells_as, told_yes, told_no}
use Rattle.states_below.proofs.TopLemmas.{coins_of_state, names_of_state, state_from}
use Rattle.states_below.proofs.below.Below.is_state.Goals as goal

pub returns-then-not-branch : goal.returns-then-not-branch
returns-then-not-branch c = λ state.
    let slots = c.args.self.now.coins.under.now in
    told_no (AllPass (sound_coin c.args.profile c.args.tip (names_in c.args.self.now.names.under.now)) slots) c.in_ok-coins_pass.field-0 c.in_ok-coins_pass.ensures c.if-not-branch.true
    (subst (λ names. AllPass (sound_coin c.args.profile c.args.tip names) slots) c.requires.names
    (coins_of_state c.args.profile c.args.tip (maps_below c.args.self.now) slots c.requires.coins state))

pub returns : goal.returns
returns c =
    let maps = maps_below c.args.self.now in
    let slots = c.args.self.now.coins.under.now in
    let profile = c.args.profile in
    let tip = c.args.tip in
    let all = told_yes (AllPass (sound_coin profile tip (names_in c.args.self.now.names.under.now)) slots) c.in_ok-coins_pass.field-0 c.in_ok-coins_pass.ensures c.if-not-branch.false in
    tells_as (AllNamesPass (top_name profile tip maps)) (IsState profile tip maps) c.names_at_top.result
    (state_from profile tip maps slots c.requires.coins c.requires.low c.requires.measured (subst (λ names. AllPass (sound_coin profile tip names) slots) (sym c.requires.names) all))
    (names_of_state profile tip maps) c.names_at_top.ensures
