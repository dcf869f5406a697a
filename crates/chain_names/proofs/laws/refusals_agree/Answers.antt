use Rattle.chain_names.proofs.BlockLemmas.{refused_in-maps}
use Rattle.chain_names.proofs.laws.refusals_agree.Goals as goal

pub returns : goal.returns
returns c = refused_in-maps
