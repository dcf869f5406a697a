use Rattle.image_grammar.proofs.ShorterLaws.{step_ends}
use Rattle.image_grammar.proofs.ending.steps_end.Goals as goal

pub returns : goal.returns
returns c = step_ends
