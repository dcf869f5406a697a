use Rattle.std.proofs.lemmas.Result.{err_from_is_err_and}
use Rattle.tx_reader.proofs.Stacks.{one_more_stack, stack_stops, stacks_end}
use Rattle.tx_reader.proofs.witness.behind_stacks.Goals as goal

pub returns-in_err-has_item : goal.returns-in_err-has_item
returns-in_err-has_item c = let p = err_from_is_err_and c.from_residual.result c.from_residual.ensures.1 in rw (p.1, p.2) (stack_stops c.loop.some c.args.more c.loop.counter c.loop.rest.now _ _ c.loop-test.true c.in_err-has_item.ensures c.loop.invariant)

pub loop-preserved : goal.loop-preserved
loop-preserved c = rw c.either-some.ensures (one_more_stack c.loop.some c.in_ok-has_item.has_item c.args.more c.loop.counter c.loop.rest.now c.in_ok-has_item.after.now _ c.loop-test.true c.in_ok-has_item.ensures c.loop.invariant)

pub returns : goal.returns
returns c = stacks_end c.loop.some c.args.more c.loop.counter c.loop.rest.now _ _ c.loop-test.false c.behind_last.ensures c.loop.invariant
