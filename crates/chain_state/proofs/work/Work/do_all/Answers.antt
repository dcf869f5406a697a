use Rattle.chain_state.proofs.ChainLemmas.{few_each}
use Rattle.std.proofs.Common.{ap, ◌∙◌}
use Rattle.chain_state.specs.Work.{maps_before}
use Rattle.chain_state.proofs.WorkedLemmas.{applied_back, handed_back, whole_paid}
use Rattle.chain_state.proofs.work.Work.do_all.Goals as goal

pub apply_all-requires-clause-outputs : goal.apply_all-requires-clause-outputs
apply_all-requires-clause-outputs g c = few_each c.args.txs c.requires.outputs

pub returns-in-Err-finish-clause-works : goal.returns-in-Err-finish-clause-works
returns-in-Err-finish-clause-works g c =
    handed_back c.args.self c.in-Err-finish.work c.abandon-in-Err-finish.result
    (ap maps_before c.in-Err-finish.ensures.err ∙ applied_back c.args.profile c.args.self c.apply_all.new.self c.args.txs (rw c.in-Ok-None.field-0-is at c.in-Ok-None.ensures.applies))
    c.abandon-in-Err-finish.ensures.before c.abandon-in-Err-finish.ensures.queue c.abandon-in-Err-finish.ensures.filled

pub returns-in-Ok-clause-works : goal.returns-in-Ok-clause-works
returns-in-Ok-clause-works g c =
    record { done = c.apply_all.new.self; applied = rw c.in-Ok-None.field-0-is at c.in-Ok-None.ensures.applies; finishes = c.in-Ok.ensures.ok }

pub returns-in-Ok-clause-cost : goal.returns-in-Ok-clause-cost
returns-in-Ok-clause-cost g c =
    whole_paid c.args.steps.now c.apply_all.new.steps c.finish.new.steps c.args.txs c.apply_all.new.self c.in-Ok.whole
    (rw c.in-Ok-None.field-0-is at c.in-Ok-None.ensures.cost) c.in-Ok.ensures.ok.ops c.in-Ok.ensures.cost

pub returns-in-Ok-Some-clause-cost : goal.returns-in-Ok-Some-clause-cost
returns-in-Ok-Some-clause-cost g c = tt

pub returns-in-Err-clause-cost : goal.returns-in-Err-clause-cost
returns-in-Err-clause-cost g c = tt

pub returns-in-Err-finish-clause-cost : goal.returns-in-Err-finish-clause-cost
returns-in-Err-finish-clause-cost g c = tt
