use Rattle.answer_trials.proofs.Served.{serving}
use Rattle.answer_trials.proofs.imports.child_of.Goals as goal

pub named-requires : goal.named-requires
named-requires c = let names = c.args.names.now in record { sound = c.new-room.ensures.sound (serving names.name.now names.value.now names.missing.now names.other.now) }
