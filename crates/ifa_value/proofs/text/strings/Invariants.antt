use Rattle.std.proofs.Common.{◌≡◌, ◌++◌, length}
use Rattle.ifa_value.specs.Shapes.{strings}
use Rattle.ifa_value.proofs.text.strings.Given as goal

abbrev pub invariant-loop-rest : goal.invariant-loop-rest
invariant-loop-rest l = l.out ++ strings l.rest ≡ l.initial.out ++ strings l.fn.text

abbrev pub decreases-loop-rest : goal.decreases-loop-rest
decreases-loop-rest l = length l.rest
