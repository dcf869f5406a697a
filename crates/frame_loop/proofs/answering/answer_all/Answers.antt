use Rattle.std.proofs.Common.{◌∙◌}
use Rattle.frame_loop.specs.Answering.{desk}
use Rattle.frame_loop.proofs.DeskLemmas.{stays, answered_then, finishes, still_takes}
use Rattle.frame_loop.proofs.answering.answer_all.Goals as goal

pub frames-init : goal.frames-init
frames-init g c = (c.requires.ready, stays (desk (g.O.Outlet.seen c.args.outlet.now) c.args.frames.now (c.args.answerer.now, c.args.world.now)))

pub answer_next-requires-clause-reads : goal.answer_next-requires-clause-reads
answer_next-requires-clause-reads g c = c.frames.invariant.1.kinds_are ∙ c.requires.reads

pub answer_next-requires-clause-takes : goal.answer_next-requires-clause-takes
answer_next-requires-clause-takes g c = still_takes g.O.Outlet.takes g.met.O.Outlet.still_takes c.frames.invariant.1.given c.requires.takes

pub answer_next-requires-clause-ready : goal.answer_next-requires-clause-ready
answer_next-requires-clause-ready g c = c.frames.invariant.0

pub returns-in-Err : goal.returns-in-Err
returns-in-Err g c =
    finishes g.T.Answerer.KINDS g.O.Outlet.gives g.O.Outlet.refuses g.O.Outlet.gives_last g.T.Answerer.ready g.T.Answerer.reached g.T.Answerer.broken
    (desk (g.O.Outlet.seen c.args.outlet.now) c.args.frames.now (c.args.answerer.now, c.args.world.now))
    (desk (g.O.Outlet.seen c.frames.outlet) c.frames.frames (c.frames.answerer, c.frames.world))
    (desk (g.O.Outlet.seen c.answer_next.new.outlet) c.answer_next.new.frames (c.answer_next.new.answerer, c.answer_next.new.world)) c.in-Err.halted c.frames.invariant.1 c.in-Err.ensures

pub frames-preserved : goal.frames-preserved
frames-preserved g c = (
  c.in-Ok.ensures.ready,
  answered_then (desk (g.O.Outlet.seen c.args.outlet.now) c.args.frames.now (c.args.answerer.now, c.args.world.now))
      (desk (g.O.Outlet.seen c.frames.outlet) c.frames.frames (c.frames.answerer, c.frames.world))
      (desk (g.O.Outlet.seen c.answer_next.new.outlet) c.answer_next.new.frames (c.answer_next.new.answerer, c.answer_next.new.world)) c.frames.invariant.1 c.in-Ok.ensures.answered,
)
