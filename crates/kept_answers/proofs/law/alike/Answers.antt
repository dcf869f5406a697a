use Rattle.kept_answers.proofs.KeptLaws.{kept_alike}
use Rattle.kept_answers.proofs.law.alike.Goals as goal

pub returns : goal.returns
returns c = kept_alike
