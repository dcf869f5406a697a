use Rattle.image_files.proofs.AreaLaws.{one_place, none_begun}
use Rattle.image_files.proofs.law.one_bad_image.Goals as goal

pub returns-clause-one : goal.returns-clause-one
returns-clause-one c = one_place

pub returns-clause-none : goal.returns-clause-none
returns-clause-none c = none_begun
