use Rattle.std.proofs.Common.{◌≡◌, Err, List, ap, sym, ◌∙◌, rules}
use Rattle.name_script.specs.NameScript.{NameOperation, name_firstupdate}
use Rattle.chain_names.specs.Verdict.{Test, spent_tests, made_tests}
use Rattle.name_rules.specs.Refusals.{said}
use Rattle.name_rules.specs.Seen.{seen_coin}
use Rattle.name_rules.proofs.FirstOf.{first_of-refused, first_of-passed}
use Rattle.name_rules.proofs.before.Before.opened.Goals as goal

pub returns-in_err-openable-clause-verdict : goal.returns-in_err-openable-clause-verdict
returns-in_err-openable-clause-verdict g c =
    let before = c.args.self.now in
    let operation : NameOperation = name_firstupdate c.args.name.now c.args.rand.now c.args.value.now in
    let spent : List Test = spent_tests before.profile (g.V.NameView.maps before.view.now) before.height operation (seen_coin c.args.spent.now.coin) in
    let is : c.from_residual.result ≡ Err c.in_err-openable.field-0.0 = search rules in
    ap said is ∙ sym (first_of-refused spent _ _ (c.in_err-openable.ensures.refusal c.args.value.now))

pub returns-in_err-unoccupied-clause-verdict : goal.returns-in_err-unoccupied-clause-verdict
returns-in_err-unoccupied-clause-verdict g c =
    let before = c.args.self.now in
    let operation : NameOperation = name_firstupdate c.args.name.now c.args.rand.now c.args.value.now in
    let spent : List Test = spent_tests before.profile (g.V.NameView.maps before.view.now) before.height operation (seen_coin c.args.spent.now.coin) in
    let is : c.from_residual-in_err-unoccupied.result ≡ Err c.in_err-unoccupied.field-0.0 = search rules in
    ap said is
    ∙ sym (first_of-passed spent _ (c.in_ok-openable.ensures.refusal c.args.value.now)
    ∙ first_of-refused (made_tests (g.V.NameView.maps before.view.now) c.args.point.now) _ _ c.in_err-unoccupied.ensures.refusal)

pub returns-clause-verdict : goal.returns-clause-verdict
returns-clause-verdict g c =
    let before = c.args.self.now in
    let operation : NameOperation = name_firstupdate c.args.name.now c.args.rand.now c.args.value.now in
    let spent : List Test = spent_tests before.profile (g.V.NameView.maps before.view.now) before.height operation (seen_coin c.args.spent.now.coin) in
    sym (first_of-passed spent _ (c.in_ok-openable.ensures.refusal c.args.value.now)
    ∙ first_of-passed (made_tests (g.V.NameView.maps before.view.now) c.args.point.now) _ c.in_ok-unoccupied.ensures.refusal)
