use Rattle.std.proofs.Common.{◌≡◌}
use Rattle.bit_resolver.specs.Places.{IsPlace}
use Rattle.bit_resolver.specs.Answers.{chase, after_records}
use Rattle.bit_resolver.specs.Ends.{seen_place}
use Rattle.bit_resolver.specs.declared.limits.TheConstants.{MOST_CNAMES}
use Rattle.import_expand.specs.Rooms.{held, IsSound}
use Rattle.bit_resolver.proofs.ChaseLemmas.{HoldsSoFar}
use Rattle.bit_resolver.proofs.question.chase.Given as goal

abbrev pub invariant-loop-left : goal.invariant-loop-left
invariant-loop-left g l = let live = g.N.Names.served l.names in
    (after_records l.before.items (chase live l.zone l.kind l.left (seen_place l.place)) ≡ chase live l.zone l.kind MOST_CNAMES (seen_place l.fn.first)) × IsPlace (seen_place l.place) × IsSound live l.room
    × HoldsSoFar live (held l.room) l.left (seen_place l.place) (seen_place l.fn.first)

abbrev pub decreases-loop-left : goal.decreases-loop-left
decreases-loop-left g l = l.left
