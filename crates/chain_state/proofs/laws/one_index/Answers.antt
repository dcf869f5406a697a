use Rattle.chain_state.proofs.UndoLemmas.{one_index}
use Rattle.chain_state.proofs.laws.one_index.Goals as goal

pub returns : goal.returns
returns c = one_index
