use Rattle.std.specs.Map.{keys_of}
use Rattle.name_report.proofs.OrderLemmas.{Walked}
use Rattle.name_report.proofs.order.in_order.Given as goal

abbrev pub invariant-loop-i : goal.invariant-loop-i
invariant-loop-i g l = Walked (keys_of l.names) l.i l.listed.keys
