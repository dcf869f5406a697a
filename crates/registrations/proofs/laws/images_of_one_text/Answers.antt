use Rattle.registrations.proofs.ImageLemmas.{told_alike, refilled_so, image_writable}
use Rattle.registrations.proofs.laws.images_of_one_text.Goals as goal

pub returns-clause-alike : goal.returns-clause-alike
returns-clause-alike c = told_alike

pub returns-clause-refilled : goal.returns-clause-refilled
returns-clause-refilled c = refilled_so

pub returns-clause-writable : goal.returns-clause-writable
returns-clause-writable c = image_writable
