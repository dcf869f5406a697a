use Rattle.image_files.proofs.AreaLaws.{one_index}
use Rattle.image_files.proofs.law.one_index_of_an_image.Goals as goal

pub returns : goal.returns
returns c = one_index
