use Rattle.std.proofs.Common.{◌∙◌, sym, ap, subst}
use Rattle.shared_chunks.specs.Joined.{IsPart}
use Rattle.shared_chunks.specs.Pairs.{AreInOrder, value_at}
use Rattle.shared_chunks.proofs.Parts.{part_is, part_order, part_value}
use Rattle.shared_chunks.proofs.level.LevelPart.get.Goals as goal

pub get-requires-clause-order : goal.get-requires-clause-order
get-requires-clause-order g c =
    let h = subst (λ z. IsPart g.K.Ord.cmp z c.args.key.now c.find-at.result) c.as_slice.ensures.value c.find-at.ensures in
    subst (AreInOrder g.K.Ord.cmp) (sym (part_is c.args.self.now.subs.items c.args.key.now c.find-at.result h c.index.result.now c.index.ensures))
    (part_order c.args.self.now.subs.items c.args.key.now c.find-at.result h c.requires.order)

pub returns : goal.returns
returns g c =
    let h = subst (λ z. IsPart g.K.Ord.cmp z c.args.key.now c.find-at.result) c.as_slice.ensures.value c.find-at.ensures in
    c.get.ensures
    ∙ ap (λ z. value_at g.K.Ord.cmp z c.args.key.now) (part_is c.args.self.now.subs.items c.args.key.now c.find-at.result h c.index.result.now c.index.ensures)
    ∙ sym (part_value c.args.self.now.subs.items c.args.key.now c.find-at.result h)
