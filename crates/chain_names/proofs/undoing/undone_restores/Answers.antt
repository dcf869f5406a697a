use Rattle.chain_names.proofs.RestoreLemmas.{block_undone}
use Rattle.chain_names.proofs.undoing.undone_restores.Goals as goal

pub returns : goal.returns
returns c = block_undone
