use Rattle.answer_trials.proofs.shelf.told.Goals as goal

pub named-requires : goal.named-requires
named-requires c = record { sound = c.clear.ensures.sound _ }
