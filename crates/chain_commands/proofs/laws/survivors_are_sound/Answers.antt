use Rattle.chain_names.proofs.IndexLemmas.{index_sound}
use Rattle.chain_commands.proofs.SurvivorLemmas.{survivor_accepted}
use Rattle.chain_commands.proofs.laws.survivors_are_sound.Goals as goal

pub returns-clause-accepted : goal.returns-clause-accepted
returns-clause-accepted c = survivor_accepted

pub returns-clause-sound : goal.returns-clause-sound
returns-clause-sound c = λ old new commands undos allowed survives accepted are.
    index_sound new.base.profile new.start new.base.height new.blocks undos (survivor_accepted old new commands allowed survives accepted) are
