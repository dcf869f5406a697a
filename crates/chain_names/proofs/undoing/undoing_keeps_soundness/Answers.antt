use Rattle.chain_names.proofs.SoundLemmas.{sound_below, sound_height}
use Rattle.chain_names.proofs.undoing.undoing_keeps_soundness.Goals as goal

pub returns-clause-below : goal.returns-clause-below
returns-clause-below c = sound_below

pub returns-clause-height : goal.returns-clause-height
returns-clause-height c = sound_height
