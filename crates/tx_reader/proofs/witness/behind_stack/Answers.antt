use Rattle.std.proofs.lemmas.Result.{err_from_is_err_and}
use Rattle.tx_reader.proofs.Stacks.{behind_ok, behind_err}
use Rattle.tx_reader.proofs.witness.behind_stack.Goals as goal

pub returns-in_err-_has_item : goal.returns-in_err-_has_item
returns-in_err-_has_item c = let p = err_from_is_err_and c.from_residual.result c.from_residual.ensures.1 in rw (p.1, p.2) (behind_err c.args.bytes.now _ c.in_err-_has_item.ensures)

pub returns : goal.returns
returns c = behind_ok c.args.bytes.now c.in_ok-_has_item._has_item c.in_ok-_has_item.rest.now c.in_ok-_has_item.ensures
