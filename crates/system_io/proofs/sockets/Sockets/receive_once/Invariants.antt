use Rattle.std.proofs.Common.{◌≡◌, [], length}
use Rattle.system_io.specs.Net.{Adds}
use Rattle.system_io.proofs.sockets.Sockets.receive_once.Given as goal

abbrev pub invariant-loop : goal.invariant-loop
invariant-loop g l = (length l.buffer ≡ length l.initial.buffer) × Adds (g.N.Net.told l.initial.net) (g.N.Net.told l.net) []
