use Rattle.std.proofs.Common.{◌-◌, ◌≤◌}
use Rattle.port_loop.specs.Attending.{station}
use Rattle.port_loop.proofs.RunLemmas.{SoFar}
use Rattle.port_loop.proofs.attending.attend.Given as goal

abbrev pub invariant-loop-polls : goal.invariant-loop-polls
invariant-loop-polls g l =
    (l.polls ≤ l.turns)
    × SoFar g.T.Answerer.KINDS g.T.Answerer.ready g.T.Answerer.reached (g.P.Port.seen l.fn.port) (l.fn.answerer, l.fn.world) l.polls (station (g.P.Port.seen l.port) l.buffers.frames l.buffers.streams (l.answerer, l.world))

abbrev pub decreases-loop-polls : goal.decreases-loop-polls
decreases-loop-polls g l = l.turns - l.polls
