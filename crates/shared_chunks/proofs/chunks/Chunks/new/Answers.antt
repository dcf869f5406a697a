use Rattle.shared_chunks.proofs.Order.{order_none}
use Rattle.shared_chunks.proofs.chunks.Chunks.new.Goals as goal

pub invariant_of-result : goal.invariant_of-result
invariant_of-result g c = order_none g.row.V.Denot g.K.Ord.cmp
