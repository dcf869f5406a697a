use Rattle.std.proofs.lemmas.Result.{err_from_is_err_and}
use Rattle.tx_reader.proofs.Stacks.{stack_ok, stack_uncounted, stack_unread}
use Rattle.tx_reader.proofs.witness.stack_in.Goals as goal

pub returns-in_err-count : goal.returns-in_err-count
returns-in_err-count c = let p = err_from_is_err_and c.from_residual.result c.from_residual.ensures.1 in rw (p.1, p.2) (stack_uncounted c.args.bytes.now _ c.in_err-count.ensures)

pub returns-in_err-after : goal.returns-in_err-after
returns-in_err-after c = let p = err_from_is_err_and c.from_residual-in_err-after.result c.from_residual-in_err-after.ensures.1 in rw (p.1, p.2) (stack_unread c.in_ok-count.count c.args.bytes.now c.in_ok-count.rest.now _ c.in_ok-count.ensures c.in_err-after.ensures)

pub returns : goal.returns
returns c = stack_ok c.in_ok-count.count c.args.bytes.now c.in_ok-count.rest.now c.in_ok-after.after.now c.in_ok-count.ensures c.in_ok-after.ensures
