use Rattle.std.proofs.Common.{◌≡◌, length}
use Rattle.states_below.specs.Bottom.{begins_registration}
use Rattle.states_below.specs.StepTests.{all_by}
use Rattle.states_below.proofs.bottom.all_begin.Given as goal

abbrev pub invariant-loop-rest : goal.invariant-loop-rest
invariant-loop-rest l = all_by begins_registration l.rest ≡ all_by begins_registration l.items

abbrev pub decreases-loop-rest : goal.decreases-loop-rest
decreases-loop-rest l = length l.rest
