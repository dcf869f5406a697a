use Rattle.std.proofs.Common.{◌≡◌, ◌+◌, length}
use Rattle.table_trials.proofs.verdicts.few.Given as goal

abbrev pub invariant-loop-output : goal.invariant-loop-output
invariant-loop-output l =
    (goal.iterator-loop-output).can_next l._output-iterator ×
    (goal.iterator-loop-output).is_finite l._output-iterator ×
    (l.left + length l.fn.outputs ≡ 10 + length l._output-iterator)
