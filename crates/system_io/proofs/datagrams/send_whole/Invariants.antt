use Rattle.std.proofs.Common.{drop}
use Rattle.std.specs.Int.{w64, to_be_bytes}
use Rattle.system_io.specs.Net.{Tries}
use Rattle.system_io.proofs.datagrams.send_whole.Given as goal

abbrev pub invariant-loop : goal.invariant-loop
invariant-loop g l = Tries (g.N.Net.told l.initial.net) (g.N.Net.told l.net) (drop 2 (to_be_bytes w64 l.client.0)) l.bytes
