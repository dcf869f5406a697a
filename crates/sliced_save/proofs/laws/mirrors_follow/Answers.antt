use Rattle.sliced_save.proofs.IndexMirror.{chain_now, chain_without, index_now, index_without}
use Rattle.sliced_save.proofs.laws.mirrors_follow.Goals as goal

pub returns : goal.returns
returns c = record { now = chain_now; of_now = index_now; before = chain_without; of_before = index_without }
