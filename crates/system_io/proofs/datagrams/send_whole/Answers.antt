use Rattle.std.proofs.Common.{rules}
use Rattle.system_io.proofs.NetLemmas.{GivesWhole_cut, GivesWhole_failed}
use Rattle.system_io.proofs.datagrams.send_whole.Goals as goal

pub returns-in-Ok-false : goal.returns-in-Ok-false
returns-in-Ok-false g c = GivesWhole_cut _ _ _ _ _ c.send_once.result _ c.loop.invariant c.send_once.ensures (search rules)

pub returns-in-Err-2 : goal.returns-in-Err-2
returns-in-Err-2 g c = GivesWhole_failed _ _ _ _ _ c.send_once.result _ c.loop.invariant c.send_once.ensures c.in-Err.is
