use Rattle.registrations.proofs.SoundLemmas.{sound_following}
use Rattle.registrations.proofs.laws.registrations_follow.Goals as goal

pub returns-clause-names : goal.returns-clause-names
returns-clause-names c = λ profile base tip maps us sound. (sound_following profile base tip maps us sound).names_are

pub returns-clause-undos : goal.returns-clause-undos
returns-clause-undos c = λ profile base tip maps us sound. (sound_following profile base tip maps us sound).undos_are
