use Rattle.std.proofs.Common.{sym, subst}
use Rattle.shared_chunks.specs.Pairs.{AreInOrder}
use Rattle.shared_chunks.proofs.Order.{order_with}
use Rattle.shared_chunks.proofs.chunks.Chunks.set.Goals as goal

pub invariant_of-self-2 : goal.invariant_of-self-2
invariant_of-self-2 g c = subst (AreInOrder g.K.Ord.cmp) (sym c.in_ok-put.ensures.ok) (order_with g.met.K.Ord.total _ c.args.key c.args.value c.self.invariant)

pub returns-clause-order : goal.returns-clause-order
returns-clause-order g c = invariant_of-self-2 g c
