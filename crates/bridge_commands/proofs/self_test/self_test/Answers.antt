use Rattle.std.proofs.Common.{refl, sym, subst}
use Rattle.bridge_core.specs.declared.status.Status.{Status}
use Rattle.bridge_commands.specs.SelfTest.{SelfTests}
use Rattle.bridge_commands.proofs.SummaryLemmas.{tests_stopped, tests_told}
use Rattle.bridge_commands.proofs.self_test.self_test.Goals as goal

pub returns-in-Ok : goal.returns-in-Ok
returns-in-Ok g c =
    let old = g.K.Sink.seen c.args.sink.now in
    let new = g.K.Sink.seen c.write_summary.new.sink in
    subst (λ (status : Status). SelfTests c.args.trial old new status) (sym c.status_of.ensures)
    (tests_told c.args.trial old new c.in-Ok.summary c.write_summary.result c.in-Ok.ensures c.write_summary.ensures)

pub returns-in-Err : goal.returns-in-Err
returns-in-Err g c = let sink = g.K.Sink.seen c.args.sink.now in tests_stopped c.args.trial sink sink c.in-Err.status c.in-Err.ensures refl
