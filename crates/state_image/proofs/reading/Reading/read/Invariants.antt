use Rattle.image_grammar.specs.Work.{work_left}
use Rattle.state_image.specs.Standing.{stage_of, IsKept}
use Rattle.state_image.specs.Turning.{GoesOn}
use Rattle.state_image.proofs.reading.Reading.read.Given as goal

abbrev pub invariant-loop-after : goal.invariant-loop-after
invariant-loop-after l = GoesOn l.initial.self l.bytes l.self l.rest × IsKept l.self

abbrev pub decreases-loop-after : goal.decreases-loop-after
decreases-loop-after l = work_left (stage_of l.self.next) l.rest
