use Rattle.std.proofs.Common.{length}
use Rattle.dns_tcp.proofs.streams.Streams.clear.Given as goal

abbrev pub decreases-loop-client : goal.decreases-loop-client
decreases-loop-client l = length l.self
