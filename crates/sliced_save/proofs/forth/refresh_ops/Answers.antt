use Rattle.std.proofs.Common.{arith, refl}
use Rattle.name_tables.proofs.ListLemmas.{front_item}
use Rattle.sliced_save.specs.Changes.{refreshed_ops, refreshed_op}
use Rattle.sliced_save.specs.Mirror.{coin_at}
use Rattle.sliced_save.proofs.LoopLemmas.{went_forth}
use Rattle.sliced_save.proofs.forth.refresh_ops.Goals as goal

pub loop-rest-preserved : goal.loop-rest-preserved
loop-rest-preserved g c = (
  went_forth (refreshed_ops c.args.table.now) (refreshed_op c.args.table.now) (λ x xs s. refl) c.op-item.result c.loop-rest.rest.now _ _ (coin_at c.loop-rest.coins) (coin_at c.refresh_op.new.coins)
      (front_item c.loop-rest.rest.now c.op-item.result c.in-len1-up.len_at_least c.op-item.is) c.in_ok-refresh_op.ensures.coins c.loop-rest.invariant.0,
  omega (arith, c.in_ok-refresh_op.ensures.cost, c.loop-rest.invariant.1),
)
