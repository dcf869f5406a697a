use Rattle.import_expand.specs.Rooms.{IsSound}
use Rattle.answer_trials.proofs.Served.{serving}
use Rattle.answer_trials.proofs.imports.held_bytes_are_counted.Given as goal

abbrev pub invariant-loop-number : goal.invariant-loop-number
invariant-loop-number g l = IsSound (serving l.long.name.now l.long.value.now l.long.missing.now l.long.other.now) l.room
