use Rattle.chain_names.proofs.BlockLemmas.{all_back}
use Rattle.chain_names.proofs.laws.undoing_restores.Goals as goal

pub returns : goal.returns
returns c = all_back
