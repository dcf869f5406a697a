use Rattle.chain_names.proofs.IndexLemmas.{undo_by_maps}
use Rattle.chain_names.proofs.undoing.undo_of_index.Goals as goal

pub returns : goal.returns
returns c = undo_by_maps
