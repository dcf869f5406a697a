use Rattle.import_expand.proofs.book.Book.memory_from.Given as goal

abbrev pub invariant-loop-entry : goal.invariant-loop-entry
invariant-loop-entry l = Unit

abbrev pub decreases-loop-entry : goal.decreases-loop-entry
decreases-loop-entry l = l.i
