use Rattle.std.proofs.Common.{◌≡◌}
use Rattle.system_io.specs.Net.{Moves}
use Rattle.system_io.proofs.unsent.Unsent.send_on.Given as goal

abbrev pub invariant-loop : goal.invariant-loop
invariant-loop g l = (l.link.peer ≡ l.initial.link.peer) × Moves (g.N.Net.told l.initial.net) (g.N.Net.told l.net) l.initial.link.peer l.fn.self l.self
