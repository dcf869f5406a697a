use Rattle.kept_answers.proofs.RightLemmas.{none_right, outdated_right}
use Rattle.kept_answers.proofs.law.kept_answers_are_right.Goals as goal

pub returns-clause-none : goal.returns-clause-none
returns-clause-none c = none_right

pub returns-clause-outdated : goal.returns-clause-outdated
returns-clause-outdated c = outdated_right
