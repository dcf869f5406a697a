use Rattle.chain_names.proofs.StartLemmas.{base_sound}
use Rattle.chain_names.proofs.IndexLemmas.{index_at_base}
use Rattle.chain_names.proofs.undoing.begins_sound.Goals as goal

pub returns-clause-sound : goal.returns-clause-sound
returns-clause-sound c = base_sound

pub returns-clause-index : goal.returns-clause-index
returns-clause-index c = index_at_base
