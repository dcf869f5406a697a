use Rattle.std.proofs.Common.{◌≡◌, [], length}
use Rattle.system_io.specs.Net.{Adds}
use Rattle.system_io.proofs.reading.read_link.Given as goal

abbrev pub invariant-loop : goal.invariant-loop
invariant-loop g l = (length l.buf ≡ length l.initial.buf) × (l.link.peer ≡ l.initial.link.peer) × Adds (g.N.Net.told l.initial.net) (g.N.Net.told l.net) []
