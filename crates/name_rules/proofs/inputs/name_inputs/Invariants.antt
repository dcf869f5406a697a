use Rattle.std.proofs.Common.{◌≡◌, ◌+◌, ◌≤◌, ◌++◌, length}
use Rattle.chain_names.specs.Verdict.{name_inputs}
use Rattle.name_rules.specs.Found.{shortened}
use Rattle.name_rules.specs.Seen.{found_inputs}
use Rattle.name_rules.proofs.inputs.name_inputs.Given as goal

abbrev pub invariant-loop-input : goal.invariant-loop-input
invariant-loop-input g l =
    (goal.iterator-loop-input g).can_next l.input-iterator ×
    (goal.iterator-loop-input g).is_finite l.input-iterator ×
    (shortened (found_inputs l.found ++ name_inputs (g.V.NameView.maps l.view).coins l.input-iterator)
    ≡ shortened (name_inputs (g.V.NameView.maps l.view).coins l.fn.inputs)) ×
    (l.steps + length l.input-iterator ≤ l.fn.steps + length l.fn.inputs)
