use Rattle.std.proofs.Common.{◌∙◌, ◌<◌, sym, ap, subst, length, arith}
use Rattle.std.specs.Option.{is_some}
use Rattle.shared_chunks.specs.Pairs.{AreInOrder, value_at, without_key}
use Rattle.shared_chunks.proofs.Parts.{part_is, part_order, part_get, part_value, part_unset, part_set_count}
use Rattle.shared_chunks.proofs.level.take_at.Goals as goal

pub unset-requires-clause-order : goal.unset-requires-clause-order
unset-requires-clause-order g c =
    subst (AreInOrder g.K.Ord.cmp) (sym (part_is c.args.subs.now.items c.args.key.now c.args.at c.requires.part c.index_mut.result.now c.index_mut.ensures.value))
    (part_order c.args.subs.now.items c.args.key.now c.args.at c.requires.part c.requires.order)

pub unset-requires-clause-more : goal.unset-requires-clause-more
unset-requires-clause-more g c =
    subst (λ z. 1 < length z) (sym (part_is c.args.subs.now.items c.args.key.now c.args.at c.requires.part c.index_mut.result.now c.index_mut.ensures.value))
    (c.requires.more c.requires.part.part (part_get c.args.subs.now.items c.args.key.now c.args.at c.requires.part))

pub returns-clause-found : goal.returns-clause-found
returns-clause-found g c =
    c.in_ok-found.ensures.found
    ∙ ap (λ z. is_some (value_at g.K.Ord.cmp z c.args.key.now)) (part_is c.args.subs.now.items c.args.key.now c.args.at c.requires.part c.index_mut.result.now c.index_mut.ensures.value)
    ∙ ap is_some (sym (part_value c.args.subs.now.items c.args.key.now c.args.at c.requires.part))

pub returns-clause-ok : goal.returns-clause-ok
returns-clause-ok g c =
    part_unset c.args.subs.now.items c.args.key.now c.args.at c.requires.part c.unset.new.self
    (c.in_ok-found.ensures.ok ∙ ap (λ z. without_key g.K.Ord.cmp z c.args.key.now) (part_is c.args.subs.now.items c.args.key.now c.args.at c.requires.part c.index_mut.result.now c.index_mut.ensures.value))

pub returns-clause-count : goal.returns-clause-count
returns-clause-count g c =
    omega (
      arith,
      part_set_count c.args.subs.now.items c.args.key.now c.args.at c.requires.part c.unset.new.self,
      ap length (part_is c.args.subs.now.items c.args.key.now c.args.at c.requires.part c.index_mut.result.now c.index_mut.ensures.value),
      c.in_ok-found.ensures.count,
    )
