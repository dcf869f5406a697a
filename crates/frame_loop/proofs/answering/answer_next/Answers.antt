use Rattle.feed_frames.specs.Front.{frame_of}
use Rattle.frame_loop.specs.Answering.{desk}
use Rattle.frame_loop.proofs.DeskLemmas.{leads_on, leads_out, answered_one, halts_behind, waits, sticks}
use Rattle.frame_loop.proofs.answering.answer_next.Goals as goal

pub returns-in-Ok-None : goal.returns-in-Ok-None
returns-in-Ok-None g c =
    waits g.O.Outlet.gives g.T.Answerer.ready g.T.Answerer.reached (desk (g.O.Outlet.seen c.args.outlet.now) c.args.frames.now (c.args.answerer.now, c.args.world.now)) c.requires.reads c.next.follows.lender-at-none c.requires.ready
    (rw (c.in-Ok-None.is, c.in-Ok-None.field-0-is) at c.next.follows.holds-at-none)

pub returns-in-Err : goal.returns-in-Err
returns-in-Err g c =
    sticks g.O.Outlet.gives g.T.Answerer.ready g.T.Answerer.reached (desk (g.O.Outlet.seen c.args.outlet.now) c.args.frames.now (c.args.answerer.now, c.args.world.now)) c.requires.reads c.next.follows.lender-at-none c.in-Err.field-0.offset c.requires.ready
    (rw c.in-Err.is at c.next.follows.holds-at-none)

pub returns-in-Ok-give : goal.returns-in-Ok-give
returns-in-Ok-give g c =
    answered_one g.O.Outlet.gives g.T.Answerer.ready g.T.Answerer.reached (desk (g.O.Outlet.seen c.args.outlet.now) c.args.frames.now (c.args.answerer.now, c.args.world.now)) c.requires.reads
    (desk (g.O.Outlet.seen c.give.new.to) c.next.follows.lender-at-none (c.turn-turned.new.self, c.turn-turned.new.world)) (frame_of c.in-Ok-Some.frame) c.turn-turned.new.reply
    (rw (c.in-Ok-Some.is, c.in-Ok-Some.field-0-is) at c.next.follows.holds-at-none) c.in-Ok.ensures c.in-Ok-give.ensures

pub returns-in-Err-give : goal.returns-in-Err-give
returns-in-Err-give g c =
    halts_behind g.O.Outlet.gives g.T.Answerer.ready g.T.Answerer.reached (desk (g.O.Outlet.seen c.args.outlet.now) c.args.frames.now (c.args.answerer.now, c.args.world.now)) c.requires.reads
    (desk (g.O.Outlet.seen c.give.new.to) c.next.follows.lender-at-none (c.turn-turned.new.self, c.turn-turned.new.world)) (frame_of c.in-Ok-Some.frame) c.turn-turned.new.reply
    (rw (c.in-Ok-Some.is, c.in-Ok-Some.field-0-is) at c.next.follows.holds-at-none) (leads_on c.in-Ok.ensures) c.in-Err-give.ensures

pub returns-in-Err-turned : goal.returns-in-Err-turned
returns-in-Err-turned g c =
    halts_behind g.O.Outlet.gives g.T.Answerer.ready g.T.Answerer.reached (desk (g.O.Outlet.seen c.args.outlet.now) c.args.frames.now (c.args.answerer.now, c.args.world.now)) c.requires.reads
    (desk (g.O.Outlet.seen c.give_last.new.to) c.next.follows.lender-at-none (c.turn-turned.new.self, c.turn-turned.new.world)) (frame_of c.in-Ok-Some.frame) c.turn-turned.new.reply
    (rw (c.in-Ok-Some.is, c.in-Ok-Some.field-0-is) at c.next.follows.holds-at-none) (leads_out c.in-Err-turned.ensures) c.give_last.ensures
