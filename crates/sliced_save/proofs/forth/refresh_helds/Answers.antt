use Rattle.std.proofs.Common.{arith, refl}
use Rattle.name_tables.proofs.ListLemmas.{front_item}
use Rattle.sliced_save.specs.Changes.{refreshed_helds, refreshed_point}
use Rattle.sliced_save.specs.Mirror.{coin_at}
use Rattle.sliced_save.proofs.LoopLemmas.{went_forth}
use Rattle.sliced_save.proofs.forth.refresh_helds.Goals as goal

pub loop-rest-preserved : goal.loop-rest-preserved
loop-rest-preserved g c = (
  went_forth (refreshed_helds c.args.table.now) (λ held coins. refreshed_point c.args.table.now held.at coins) (λ x xs s. refl) c.held-item.result c.loop-rest.rest.now _ _ (coin_at c.loop-rest.coins) (coin_at c.refresh_point.new.coins)
      (front_item c.loop-rest.rest.now c.held-item.result c.in-len1-up.len_at_least c.held-item.is) c.in_ok-refresh_point.ensures.coins c.loop-rest.invariant.0,
  omega (arith, c.in_ok-refresh_point.ensures.cost, c.loop-rest.invariant.1),
)
