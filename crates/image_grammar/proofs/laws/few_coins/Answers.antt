use Rattle.image_grammar.proofs.FewLaws.{few_coins}
use Rattle.image_grammar.proofs.laws.few_coins.Goals as goal

pub returns : goal.returns
returns c = few_coins
