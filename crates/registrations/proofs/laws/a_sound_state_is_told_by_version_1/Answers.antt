use Rattle.registrations.proofs.OnlyLemmas.{same_sound}
use Rattle.registrations.proofs.SoundLemmas.{sound_following}
use Rattle.registrations.proofs.laws.a_sound_state_is_told_by_version_1.Goals as goal

pub returns : goal.returns
returns c = λ profile other_profile base other_base tip other_tip maps other us others sound other_sound coins same.
    same_sound maps other us others (sound_following profile base tip maps us sound) (sound_following other_profile other_base other_tip other others other_sound) coins same
