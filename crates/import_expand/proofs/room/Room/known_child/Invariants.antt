use Rattle.import_expand.proofs.room.Room.known_child.Given as goal

abbrev pub invariant-loop-child : goal.invariant-loop-child
invariant-loop-child l = Unit

abbrev pub decreases-loop-child : goal.decreases-loop-child
decreases-loop-child l = l.i
