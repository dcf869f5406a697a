use Rattle.chain_names.proofs.OperationLemmas.{undo_ops_in-maps}
use Rattle.chain_names.proofs.undoing.undo_agrees.Goals as goal

pub returns : goal.returns
returns c = undo_ops_in-maps
