use Rattle.image_grammar.proofs.WholeLaws.{text_again}
use Rattle.image_grammar.proofs.laws.written_is_read_again.Goals as goal

pub returns : goal.returns
returns c = text_again
