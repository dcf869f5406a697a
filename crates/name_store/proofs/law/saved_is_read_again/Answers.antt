use Rattle.name_store.proofs.SavedLemmas.{saved_again}
use Rattle.name_store.proofs.law.saved_is_read_again.Goals as goal

pub returns : goal.returns
returns c = saved_again
