use Rattle.disk_model.proofs.MomentLemmas.{clock_later, left_before, left_since}
use Rattle.disk_model.proofs.law.images_of_moments.Goals as goal

pub returns-clause-later : goal.returns-clause-later
returns-clause-later g c = λ old new each. clock_later each

pub returns-clause-kept : goal.returns-clause-kept
returns-clause-kept g c = λ old new time image each left. left_before time image each left

pub returns-clause-nothing_else : goal.returns-clause-nothing_else
returns-clause-nothing_else g c = λ old new time image each left. left_since time image each left
