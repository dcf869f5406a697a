use Rattle.chain_names.proofs.SoundLemmas.{block_sound}
use Rattle.chain_names.proofs.undoing.block_keeps_soundness.Goals as goal

pub returns : goal.returns
returns c = block_sound
