use Rattle.saved_widths.proofs.ChainLemmas.{text_again}
use Rattle.saved_widths.proofs.laws.texts_are_read_again.Goals as goal

pub returns : goal.returns
returns c = text_again
