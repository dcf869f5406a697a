use Rattle.std.proofs.Common.{◌≡◌, ◌+◌, ◌++◌, length}
use Rattle.chain_names.specs.Verdict.{name_outputs}
use Rattle.name_rules.specs.Found.{shortened}
use Rattle.name_rules.specs.Seen.{found_outputs}
use Rattle.name_rules.proofs.outputs.name_outputs.Given as goal

abbrev pub invariant-loop-output : goal.invariant-loop-output
invariant-loop-output l =
    (goal.iterator-loop-output).can_next l.output-iterator ×
    (goal.iterator-loop-output).is_finite l.output-iterator ×
    (shortened (found_outputs l.found ++ name_outputs l.place l.output-iterator)
    ≡ shortened (name_outputs 0 l.fn.outputs)) ×
    (l.place + length l.output-iterator ≡ length l.fn.outputs)
