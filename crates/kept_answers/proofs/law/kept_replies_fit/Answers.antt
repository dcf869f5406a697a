use Rattle.kept_answers.proofs.KeptLaws.{kept_fits}
use Rattle.kept_answers.proofs.law.kept_replies_fit.Goals as goal

pub returns : goal.returns
returns c = kept_fits
