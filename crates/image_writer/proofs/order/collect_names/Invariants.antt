use Rattle.image_writer.proofs.OrderLemmas.{ListsNamesTo}
use Rattle.image_writer.proofs.order.collect_names.Given as goal

abbrev pub invariant-loop-place : goal.invariant-loop-place
invariant-loop-place l = ListsNamesTo l.names l.listed.items l.place
