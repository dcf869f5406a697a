use Rattle.name_snapshot.proofs.LengthLemmas.{image_short}
use Rattle.name_snapshot.proofs.laws.images_are_short.Goals as goal

pub returns : goal.returns
returns c = image_short
