use Rattle.std.proofs.Common.{◌≡◌, length}
use Rattle.image_grammar.specs.Reading.{first_other}
use Rattle.state_image.proofs.head.first_other.Given as goal

abbrev pub invariant-loop-wanted : goal.invariant-loop-wanted
invariant-loop-wanted l = first_other l.want l.bytes ≡ first_other l.wanted l.rest

abbrev pub decreases-loop-wanted : goal.decreases-loop-wanted
decreases-loop-wanted l = length l.wanted
