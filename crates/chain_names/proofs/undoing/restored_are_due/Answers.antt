use Rattle.chain_names.proofs.RestoreLemmas.{restored_due}
use Rattle.chain_names.proofs.undoing.restored_are_due.Goals as goal

pub returns : goal.returns
returns c = restored_due
