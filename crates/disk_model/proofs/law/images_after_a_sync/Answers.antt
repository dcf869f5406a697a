use Rattle.disk_model.proofs.ImageLemmas.{KeepsSettled-sync, KeepsSettled-images}
use Rattle.disk_model.proofs.law.images_after_a_sync.Goals as goal

pub returns-clause-kept : goal.returns-clause-kept
returns-clause-kept c = λ file old new so. KeepsSettled-sync file old new so

pub returns-clause-none_more : goal.returns-clause-none_more
returns-clause-none_more c = λ old new image so is. KeepsSettled-images old new image so is
