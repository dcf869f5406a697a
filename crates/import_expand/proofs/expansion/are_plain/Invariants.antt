use Rattle.import_expand.specs.Sources.{EndsNoWay}
use Rattle.import_expand.specs.Books.{objects}
use Rattle.import_expand.proofs.AbsentLemmas.{AllAre}
use Rattle.import_expand.proofs.expansion.are_plain.Given as goal

abbrev pub invariant-loop-source : goal.invariant-loop-source
invariant-loop-source l = AllAre EndsNoWay (objects l.book) l.of l.source-index
