use Rattle.answer_trials.proofs.imports.held_bytes_are_counted.Goals as goal

pub loop-number-init : goal.loop-number-init
loop-number-init g c = c.new-room.ensures.sound _
