use Rattle.std.proofs.Common.{sym, ap, ◌∙◌, subst, Some}
use Rattle.shared_chunks.specs.Pairs.{IsAt, IsGap}
use Rattle.shared_chunks.proofs.Found.{at_value, gap_value}
use Rattle.shared_chunks.proofs.leaf.LeafPart.get.Goals as goal

pub returns-in-Some : goal.returns-in-Some
returns-in-Some g c =
    let f = subst (λ z. IsAt g.K.Ord.cmp z c.args.key.now c.in-Ok.at) c.as_slice.ensures.value c.in-Ok.ensures.found in
    ap Some c.value.ensures ∙ at_value _ c.args.key.now c.in-Ok.at c.in-Some.entry.now f c.in-Some.ensures

pub returns-in-Err : goal.returns-in-Err
returns-in-Err g c =
    let f = subst (λ z. IsGap g.K.Ord.cmp z c.args.key.now c.in-Err.field-0) c.as_slice.ensures.value c.in-Err.ensures.absent in
    sym (gap_value _ _ _ f)
