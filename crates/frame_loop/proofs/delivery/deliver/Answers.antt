use Rattle.std.proofs.Common.{arith}
use Rattle.frame_loop.proofs.DeliveryLemmas.{goes_on}
use Rattle.frame_loop.proofs.delivery.deliver.Goals as goal

pub loop-rest-preserved : goal.loop-rest-preserved
loop-rest-preserved g c =
    rw c.split_at.ensures.back (goes_on (g.K.Sink.seen c.args.sink.now) (g.K.Sink.seen c.loop-rest.sink) (g.K.Sink.seen c.write.new.self) c.args.text.now c.loop-rest.rest.now c.loop-rest.invariant
    (record { count = c.in-Ok.count; some = omega (arith, c.if-count-eq0.false); writes = c.in-Ok.ensures }))
