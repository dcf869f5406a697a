use Rattle.frame_loop.proofs.DeliveryLemmas.{took_up_to}
use Rattle.frame_loop.proofs.delivery.deliver_part.Goals as goal

pub returns : goal.returns
returns g c = took_up_to (g.K.Sink.seen c.args.sink.now) (g.K.Sink.seen c.deliver.new.sink) c.args.text.now c.deliver.result c.deliver.ensures
