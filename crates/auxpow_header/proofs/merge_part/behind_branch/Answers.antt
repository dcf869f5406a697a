use Rattle.std.proofs.Common.{sym, ◌∙◌}
use Rattle.std.proofs.lemmas.Result.{err_from_is_err_and}
use Rattle.auxpow_header.proofs.Parts.{branch_counted, branch_uncounted}
use Rattle.auxpow_header.proofs.merge_part.behind_branch.Goals as goal

pub returns-in_err-count : goal.returns-in_err-count
returns-in_err-count c = let p = err_from_is_err_and c.from_residual.result c.from_residual.ensures.1 in rw (p.1, p.2) (branch_uncounted c.args.bytes.now _ c.in_err-count.ensures)

pub returns : goal.returns
returns c = c.behind_hashes.ensures ∙ sym (branch_counted c.in_ok-count.count c.args.bytes.now c.in_ok-count.rest.now c.in_ok-count.ensures)
