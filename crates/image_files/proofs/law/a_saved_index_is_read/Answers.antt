use Rattle.image_files.proofs.StateLaws.{saved_sound, state_index}
use Rattle.image_files.proofs.AreaLaws.{area_front, area_image, saved_undamaged, saved_index}
use Rattle.image_files.proofs.law.a_saved_index_is_read.Goals as goal

pub returns-clause-front : goal.returns-clause-front
returns-clause-front c = λ image records file short is. (area_front image records file short is, area_image image records file short is)

pub returns-clause-sound : goal.returns-clause-sound
returns-clause-sound c = saved_sound

pub returns-clause-undamaged : goal.returns-clause-undamaged
returns-clause-undamaged c = saved_undamaged

pub returns-clause-index : goal.returns-clause-index
returns-clause-index c = saved_index

pub returns-clause-state : goal.returns-clause-state
returns-clause-state c = state_index
