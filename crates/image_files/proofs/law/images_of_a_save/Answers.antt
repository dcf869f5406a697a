use Rattle.image_files.proofs.SaveLemmas.{crash_of}
use Rattle.image_files.proofs.law.images_of_a_save.Goals as goal

pub returns : goal.returns
returns c = λ front slots image records old files on saves. crash_of front slots image records old files on saves
