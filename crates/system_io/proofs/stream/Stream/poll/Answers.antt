use Rattle.system_io.proofs.NetLemmas.{Hears_read}
use Rattle.system_io.proofs.stream.Stream.poll.Goals as goal

pub returns-clause-told : goal.returns-clause-told
returns-clause-told g c = Hears_read _ _ _ c.args.self.now.client _ _ _ c.args.self.now.its c.polled_of.ensures.its c.polled_of.ensures.read c.read-read.ensures.count c.read-read.ensures.bytes
