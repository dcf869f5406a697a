use Rattle.chain_state.proofs.SoundLemmas.{valid_undos, valid_sound, standing_sound}
use Rattle.chain_state.proofs.laws.chains_are_sound.Goals as goal

pub returns-clause-undos : goal.returns-clause-undos
returns-clause-undos c = λ base start blocks valid. ((valid_undos base start blocks valid).undos, (valid_undos base start blocks valid).are_undos)

pub returns-clause-chain : goal.returns-clause-chain
returns-clause-chain c = valid_sound

pub returns-clause-index : goal.returns-clause-index
returns-clause-index c = standing_sound
