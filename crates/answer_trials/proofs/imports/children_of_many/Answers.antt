use Rattle.answer_trials.proofs.Served.{serving}
use Rattle.answer_trials.proofs.imports.children_of_many.Goals as goal

pub named-requires : goal.named-requires
named-requires g c = let names = c.names-many.result in record { sound = c.new-room.ensures.sound (serving names.name.now names.value.now names.missing.now names.other.now) }
