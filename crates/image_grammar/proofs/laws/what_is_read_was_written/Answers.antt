use Rattle.image_grammar.proofs.ReadLaws.{image_takes}
use Rattle.image_grammar.proofs.laws.what_is_read_was_written.Goals as goal

pub returns : goal.returns
returns c = image_takes
