use Rattle.std.proofs.Common.{◌≡◌, [], length}
use Rattle.system_io.specs.Net.{Hears}
use Rattle.system_io.proofs.sockets.Sockets.poll.Given as goal

abbrev pub invariant-loop : goal.invariant-loop
invariant-loop g l = (length l.buffer ≡ length l.initial.buffer) × Hears (g.N.Net.told l.initial.net) (g.N.Net.told l.net) []
