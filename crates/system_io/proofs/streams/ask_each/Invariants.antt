use Rattle.system_io.specs.Waits.{AsksFirst}
use Rattle.system_io.proofs.streams.ask_each.Given as goal

abbrev pub invariant-loop-at : goal.invariant-loop-at
invariant-loop-at l = AsksFirst l.streams l.places l.at
