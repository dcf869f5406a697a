use Rattle.std.proofs.Common.{◌≡◌, ◌+◌, ◌-◌, ◌*◌, ◌≤◌, length}
use Rattle.image_writer.proofs.PieceLemmas.{Given}
use Rattle.sliced_save.proofs.giving.Giving.next.Given as goal

abbrev pub invariant-loop-filled : goal.invariant-loop-filled
invariant-loop-filled g l = Given l.initial.self.rest l.self.rest l.initial.buf l.buf l.filled × (l.self.text ≡ l.initial.self.text) × (l.steps ≤ l.initial.steps + 2 * l.filled)

abbrev pub decreases-loop-filled : goal.decreases-loop-filled
decreases-loop-filled g l = length l.buf - l.filled
