use Rattle.std.proofs.Common.{◌≡◌, ◌+◌, ◌*◌, ◌^◌}
use Rattle.shared_chunks.specs.Eight.{number}
use Rattle.shared_chunks.proofs.hints.number_of.Given as goal

abbrev pub invariant-loop-left : goal.invariant-loop-left
invariant-loop-left l = l.sum * 256 ^ l.left + number l.left l.rest ≡ number 8 l.bytes

abbrev pub decreases-loop-left : goal.decreases-loop-left
decreases-loop-left l = l.left
