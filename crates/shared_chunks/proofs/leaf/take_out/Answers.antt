use Rattle.std.proofs.Common.{sym, ap, ◌∙◌, subst}
use Rattle.std.specs.Option.{is_some}
use Rattle.shared_chunks.specs.Pairs.{IsAt, IsGap}
use Rattle.shared_chunks.proofs.Found.{at_found, gap_value, at_unset, gap_unset}
use Rattle.shared_chunks.proofs.leaf.take_out.Goals as goal

pub returns-in-Ok-clause-found : goal.returns-in-Ok-clause-found
returns-in-Ok-clause-found g c =
    let f = subst (λ z. IsAt g.K.Ord.cmp z c.args.key.now c.in-Ok.at) c.as_slice.ensures.value c.in-Ok.ensures.found in
    sym (ap is_some (at_found _ _ _ f))

pub returns-in-Ok-clause-ok : goal.returns-in-Ok-clause-ok
returns-in-Ok-clause-ok g c =
    let f = subst (λ z. IsAt g.K.Ord.cmp z c.args.key.now c.in-Ok.at) c.as_slice.ensures.value c.in-Ok.ensures.found in
    c.remove.ensures.items ∙ at_unset _ c.args.key.now c.in-Ok.at f

pub returns-in-Err-clause-found : goal.returns-in-Err-clause-found
returns-in-Err-clause-found g c =
    let f = subst (λ z. IsGap g.K.Ord.cmp z c.args.key.now c.in-Err.field-0) c.as_slice.ensures.value c.in-Err.ensures.absent in
    sym (ap is_some (gap_value _ _ _ f))

pub returns-in-Err-clause-ok : goal.returns-in-Err-clause-ok
returns-in-Err-clause-ok g c =
    let f = subst (λ z. IsGap g.K.Ord.cmp z c.args.key.now c.in-Err.field-0) c.as_slice.ensures.value c.in-Err.ensures.absent in
    gap_unset _ _ _ f
