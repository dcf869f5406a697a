use Rattle.chain_names.proofs.StateLemmas.{block_state}
use Rattle.chain_names.proofs.undoing.block_keeps_state.Goals as goal

pub returns : goal.returns
returns c = block_state
