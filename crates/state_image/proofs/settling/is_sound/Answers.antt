use Rattle.std.proofs.Common.{arith}
use Rattle.state_image.proofs.FormLemmas.{sound_low}
use Rattle.state_image.proofs.settling.is_sound.Goals as goal

pub overflow_add-tip : goal.overflow_add-tip
overflow_add-tip c = omega (arith, c.requires.undo_count, c.len.ensures)

pub returns-then-tip : goal.returns-then-tip
returns-then-tip c = λ sound. absurd (omega (arith, sound_low _ _ _ _ _ sound, c.len.ensures))
