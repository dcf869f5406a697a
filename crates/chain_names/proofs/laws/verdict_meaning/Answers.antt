use Rattle.chain_names.proofs.Meanings.{verdict_means}
use Rattle.chain_names.proofs.laws.verdict_meaning.Goals as goal

pub returns : goal.returns
returns c = verdict_means
