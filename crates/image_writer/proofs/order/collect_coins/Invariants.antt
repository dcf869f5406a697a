use Rattle.image_writer.proofs.OrderLemmas.{ListsCoinsTo}
use Rattle.image_writer.proofs.order.collect_coins.Given as goal

abbrev pub invariant-loop-place : goal.invariant-loop-place
invariant-loop-place l = ListsCoinsTo l.coins l.listed.items l.place
