use Rattle.image_grammar.proofs.StepLaws.{step_follows}
use Rattle.image_grammar.proofs.laws.steps_are_the_reading.Goals as goal

pub returns : goal.returns
returns c = step_follows
