use Rattle.std.proofs.Common.{[]}
use Rattle.chain_state.proofs.StandingLemmas.{base_stands}
use Rattle.chain_state.proofs.SoundLemmas.{standing_sound}
use Rattle.chain_state.proofs.laws.base_stands.Goals as goal

pub returns-clause-stands : goal.returns-clause-stands
returns-clause-stands c = base_stands

pub returns-clause-sound : goal.returns-clause-sound
returns-clause-sound c = λ base start index at. standing_sound base start [] index (base_stands base start index at)
