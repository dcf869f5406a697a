use Rattle.std.proofs.Common.{length}
use Rattle.frame_loop.proofs.DeliveryLemmas.{Delivering}
use Rattle.frame_loop.proofs.delivery.deliver.Given as goal

abbrev pub invariant-loop-rest : goal.invariant-loop-rest
invariant-loop-rest g l = Delivering (g.K.Sink.seen l.fn.sink) (g.K.Sink.seen l.sink) l.text l.rest

abbrev pub decreases-loop-rest : goal.decreases-loop-rest
decreases-loop-rest g l = length l.rest
