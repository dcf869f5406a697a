use Rattle.name_snapshot.proofs.AgreeLemmas.{answers_agree}
use Rattle.name_snapshot.proofs.laws.answers_exclude.Goals as goal

pub returns : goal.returns
returns c = answers_agree
