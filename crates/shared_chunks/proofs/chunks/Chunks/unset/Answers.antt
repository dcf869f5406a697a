use Rattle.std.proofs.Common.{sym, subst}
use Rattle.shared_chunks.specs.Pairs.{AreInOrder}
use Rattle.shared_chunks.proofs.Order.{order_without_key}
use Rattle.shared_chunks.proofs.chunks.Chunks.unset.Goals as goal

pub invariant_of-self-2 : goal.invariant_of-self-2
invariant_of-self-2 g c = subst (AreInOrder g.K.Ord.cmp) (sym c.in_ok-found.ensures.ok) (order_without_key g.met.K.Ord.total _ c.args.key.now c.self.invariant)

pub returns-clause-order : goal.returns-clause-order
returns-clause-order g c = invariant_of-self-2 g c
