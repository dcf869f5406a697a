use Rattle.std.proofs.Common.{◌-◌}
use Rattle.frame_loop.specs.Answering.{desk}
use Rattle.frame_loop.specs.Transcript.{streams}
use Rattle.frame_loop.proofs.StreamLemmas.{Arrives}
use Rattle.frame_loop.proofs.following.follow.Given as goal

abbrev pub invariant-pieces : goal.invariant-pieces
invariant-pieces g l =
    (g.T.Answerer.ready (l.answerer, l.world))
    × Arrives g.T.Answerer.KINDS g.T.Answerer.reached (streams (g.S.Source.seen l.fn.source) (g.K.Sink.seen l.fn.sink)) l.limit l.read (l.fn.answerer, l.fn.world) (g.S.Source.seen l.source) (desk (g.K.Sink.seen l.sink) l.buffers.frames (l.answerer, l.world))

abbrev pub decreases-pieces : goal.decreases-pieces
decreases-pieces g l = l.limit - l.read
