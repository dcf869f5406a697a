use Rattle.system_io.specs.Waits.{FindsIdle}
use Rattle.system_io.proofs.streams.silent_longest.Given as goal

abbrev pub invariant-loop-at : goal.invariant-loop-at
invariant-loop-at l = FindsIdle l.streams l.at l.found
