use Rattle.chain_names.proofs.IndexLemmas.{index_undone}
use Rattle.chain_names.proofs.undoing.index_goes_back.Goals as goal

pub returns : goal.returns
returns c = index_undone
