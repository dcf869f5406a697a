use Rattle.std.proofs.Common.{length}
use Rattle.frame_loop.specs.Answering.{Answered, desk}
use Rattle.frame_loop.proofs.answering.answer_all.Given as goal

abbrev pub invariant-frames : goal.invariant-frames
invariant-frames g l =
    (g.T.Answerer.ready (l.answerer, l.world))
    × Answered g.T.Answerer.KINDS g.O.Outlet.gives g.T.Answerer.reached (desk (g.O.Outlet.seen l.fn.outlet) l.fn.frames (l.fn.answerer, l.fn.world)) (desk (g.O.Outlet.seen l.outlet) l.frames (l.answerer, l.world))

abbrev pub decreases-frames : goal.decreases-frames
decreases-frames g l = length l.frames.left
