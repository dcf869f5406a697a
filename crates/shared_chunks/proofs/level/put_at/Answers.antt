use Rattle.std.proofs.Common.{◌∙◌, sym, ap, subst, length, arith}
use Rattle.shared_chunks.specs.Pairs.{AreInOrder, with_pair}
use Rattle.shared_chunks.proofs.Parts.{part_is, part_order, part_count, part_set, part_set_count}
use Rattle.shared_chunks.proofs.level.put_at.Goals as goal

pub set-requires-clause-order : goal.set-requires-clause-order
set-requires-clause-order g c =
    subst (AreInOrder g.K.Ord.cmp) (sym (part_is c.args.subs.now.items c.args.entry.now.0 c.args.at c.requires.part c.index_mut.result.now c.index_mut.ensures.value))
    (part_order c.args.subs.now.items c.args.entry.now.0 c.args.at c.requires.part c.requires.order)

pub set-requires-clause-fits : goal.set-requires-clause-fits
set-requires-clause-fits g c =
    omega (
      arith,
      ap length (part_is c.args.subs.now.items c.args.entry.now.0 c.args.at c.requires.part c.index_mut.result.now c.index_mut.ensures.value),
      part_count c.args.subs.now.items c.args.entry.now.0 c.args.at c.requires.part,
      c.requires.fits,
    )

pub returns-clause-ok : goal.returns-clause-ok
returns-clause-ok g c =
    part_set c.args.subs.now.items c.args.entry.now.0 c.args.at c.requires.part c.args.entry.now.1 c.set.new.self
    (c.in_ok-was.ensures.ok ∙ ap (λ z. with_pair g.K.Ord.cmp z c.args.entry.now.0 c.args.entry.now.1) (part_is c.args.subs.now.items c.args.entry.now.0 c.args.at c.requires.part c.index_mut.result.now c.index_mut.ensures.value))

pub returns-clause-count : goal.returns-clause-count
returns-clause-count g c =
    omega (
      arith,
      part_set_count c.args.subs.now.items c.args.entry.now.0 c.args.at c.requires.part c.set.new.self,
      ap length (part_is c.args.subs.now.items c.args.entry.now.0 c.args.at c.requires.part c.index_mut.result.now c.index_mut.ensures.value),
      c.in_ok-was.ensures.count,
    )
