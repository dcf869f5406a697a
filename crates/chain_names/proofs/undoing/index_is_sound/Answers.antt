use Rattle.chain_names.proofs.IndexLemmas.{index_sound}
use Rattle.chain_names.proofs.undoing.index_is_sound.Goals as goal

pub returns : goal.returns
returns c = index_sound
