use Rattle.std.proofs.Common.{arith, refl}
use Rattle.name_tables.proofs.ListLemmas.{front_item}
use Rattle.sliced_save.specs.Changes.{grown_ops, grown_op}
use Rattle.sliced_save.specs.Mirror.{items_at}
use Rattle.sliced_save.proofs.LoopLemmas.{went_forth}
use Rattle.sliced_save.proofs.forth.grow_ops.Goals as goal

pub loop-rest-preserved : goal.loop-rest-preserved
loop-rest-preserved g c = (
  went_forth (grown_ops c.args.table.now) (grown_op c.args.table.now) (λ x xs s. refl) c.op-item.result c.loop-rest.rest.now _ _ (items_at c.loop-rest.names) (items_at c.grow_op.new.names)
      (front_item c.loop-rest.rest.now c.op-item.result c.in-len1-up.len_at_least c.op-item.is) c.in_ok-grow_op.ensures.names c.loop-rest.invariant.0,
  omega (arith, c.in_ok-grow_op.ensures.cost, c.loop-rest.invariant.1),
)
