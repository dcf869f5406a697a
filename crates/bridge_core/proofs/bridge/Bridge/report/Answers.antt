use Rattle.std.proofs.Common.{sym, ap, subst, ◌∙◌}
use Rattle.chain_state.specs.Chain.{Indexed}
use Rattle.name_report.specs.Report.{reported_by, Reports}
use Rattle.index_commands.specs.Standing as chains
use Rattle.chain_commands.specs.RunState.{chain_of}
use Rattle.name_store.specs.Stored.{StandsFor}
use Rattle.bridge_core.specs.Bridged.{Bridged}
use Rattle.bridge_core.proofs.bridge.Bridge.report.Goals as goal

pub returns-clause-index : goal.returns-clause-index
returns-clause-index g c =
    subst (λ (index : Indexed). Reports (reported_by index) (g.K.Sink.seen c.args.sink.now) (g.K.Sink.seen c.report.new.sink) c.report.result)
    (c.chain.ensures ∙ ap (λ (x : Bridged). x.store.index) c.self.view_is) c.report.ensures.index

pub returns-clause-runs : goal.returns-clause-runs
returns-clause-runs g c = λ run stands.
    let s = subst (λ (x : Bridged). StandsFor x.store run) (sym c.self.view_is) stands in
    let chain = chain_of run in
    c.report.ensures.chain chain.base chain.start chain.blocks (subst (λ (index : Indexed). chains.StandsFor index chain) (sym c.chain.ensures) s.index)
