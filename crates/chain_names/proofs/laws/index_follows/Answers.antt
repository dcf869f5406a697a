use Rattle.chain_names.proofs.BlockLemmas.{index_maps-next}
use Rattle.chain_names.proofs.laws.index_follows.Goals as goal

pub returns : goal.returns
returns c = index_maps-next
