use Rattle.kept_answers.proofs.KeptLaws.{reply_kept}
use Rattle.kept_answers.proofs.law.replies_are_kept.Goals as goal

pub returns : goal.returns
returns c = reply_kept
