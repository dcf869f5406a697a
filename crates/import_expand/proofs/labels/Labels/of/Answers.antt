use Rattle.std.proofs.Common.{sym, ap, subst, ◌∙◌, ◌==◌, List, ℕ}
use Rattle.std.proofs.lemmas.List.Sorted.{IsNonDecreasingBy-from_sort, list_any-IsPermutation}
use Rattle.ifa_value.specs.Labels.{label_number}
use Rattle.import_expand.specs.Labels.{is_among, AreMarked}
use Rattle.import_expand.proofs.labels.Labels.of.Goals as goal

pub invariant_of-result-clause-rise : goal.invariant_of-result-clause-rise
invariant_of-result-clause-rise c = IsNonDecreasingBy-from_sort (λ x. x) c.sort_unstable.new.self.items c.sort_unstable.ensures.sorted

pub invariant_of-result-clause-are_marked : goal.invariant_of-result-clause-are_marked
invariant_of-result-clause-are_marked c = subst (λ (xs : List ℕ). AreMarked c.factor_of-factor.result c.marks_of-marks.result xs) c.as_slice.ensures.value c.marks_of-marks.ensures

pub returns : goal.returns
returns c label = sym (list_any-IsPermutation (λ n. n == label_number label) c.in_ok-numbers.numbers.items c.sort_unstable.new.self.items c.sort_unstable.ensures.permutation) ∙ ap (λ (xs : List ℕ). is_among xs label) c.in_ok-numbers.ensures
