use Rattle.std.proofs.Common.{◌≡◌, subst, sym, ◌∙◌}
use Rattle.chain_names.specs.Verdict.{verdict}
use Rattle.chain_names.specs.Meaning.{Means}
use Rattle.chain_names.proofs.Meanings.{verdict_means}
use Rattle.name_rules.specs.Seen.{seen_verdict}
use Rattle.name_rules.proofs.Shortened.{verdict-found}
use Rattle.name_rules.proofs.transaction.check.Goals as goal

pub returns-in-Ok-clause-verdict : goal.returns-in-Ok-clause-verdict
returns-in-Ok-clause-verdict g c =
    c.in-Ok.ensures.verdict
    ∙ verdict-found c.args.profile (g.V.NameView.maps c.args.view.now) c.args.height c.args.tx.now c.args.txid.now.0 _ _ _ _ _
    c.requires.txid c.version.ensures c.inputs.ensures c.outputs.ensures c.name_inputs-spent.ensures.found c.name_outputs-made.ensures

pub returns-in-Ok-clause-means : goal.returns-in-Ok-clause-means
returns-in-Ok-clause-means g c =
    let maps = g.V.NameView.maps c.args.view.now in
    let is : seen_verdict c.in-Ok.verdict ≡ verdict c.args.profile maps c.args.height c.args.tx.now = returns-in-Ok-clause-verdict g c in
    subst (Means c.args.profile maps c.args.height c.args.tx.now) (sym is) (verdict_means c.args.profile maps c.args.height c.args.tx.now)

pub returns-in-Err-clause-verdict : goal.returns-in-Err-clause-verdict
returns-in-Err-clause-verdict g c =
    c.in-Err.ensures.verdict
    ∙ verdict-found c.args.profile (g.V.NameView.maps c.args.view.now) c.args.height c.args.tx.now c.args.txid.now.0 _ _ _ _ _
    c.requires.txid c.version.ensures c.inputs.ensures c.outputs.ensures c.name_inputs-spent.ensures.found c.name_outputs-made.ensures
