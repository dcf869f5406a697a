use Rattle.image_grammar.proofs.WrittenLaws.{written-sound}
use Rattle.image_grammar.proofs.states.images_are_written.Goals as goal

pub returns : goal.returns
returns c = written-sound
