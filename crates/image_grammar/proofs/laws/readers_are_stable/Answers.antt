use Rattle.image_grammar.proofs.StepLaws.{step_stable}
use Rattle.image_grammar.proofs.laws.readers_are_stable.Goals as goal

pub returns : goal.returns
returns c = step_stable
