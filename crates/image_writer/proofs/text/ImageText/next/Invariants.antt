use Rattle.std.proofs.Common.{◌-◌, length}
use Rattle.image_writer.proofs.PieceLemmas.{Given}
use Rattle.image_writer.proofs.text.ImageText.next.Given as goal

abbrev pub invariant-loop-filled : goal.invariant-loop-filled
invariant-loop-filled l = Given l.initial.self l.self l.initial.buf l.buf l.filled

abbrev pub decreases-loop-filled : goal.decreases-loop-filled
decreases-loop-filled l = length l.buf - l.filled
