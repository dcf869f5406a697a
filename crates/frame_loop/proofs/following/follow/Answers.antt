use Rattle.std.proofs.Common.{◌∙◌, ℕ, sym, ap, subst, arith}
use Rattle.feed_frames.specs.Feed.{fresh_feed}
use Rattle.feed_frames.specs.Frames.{IsPartialFrame}
use Rattle.frame_loop.specs.Answering.{desk}
use Rattle.frame_loop.specs.Transcript.{streams}
use Rattle.frame_loop.proofs.StreamLemmas.{begins, moves, reads_on, at_bad_frame, at_limit, at_sink, at_its_end, at_source, reads_nothing, at_done, in_frame}
use Rattle.frame_loop.proofs.following.follow.Goals as goal

pub fill-requires-clause-answered : goal.fill-requires-clause-answered
fill-requires-clause-answered g c =
    let answered = c.in-Partial.ensures.answered in
    subst (λ (k : ℕ). IsPartialFrame k c.answer_all.new.frames.left) (sym (answered.kinds_are ∙ c.pieces.invariant.1.at.reads)) c.in-Partial.ensures.partial

pub pieces-init : goal.pieces-init
pieces-init g c = (c.requires.ready, begins g.T.Answerer.reached (streams (g.S.Source.seen c.args.source.now) (g.K.Sink.seen c.args.sink.now)) c.args.limit (c.args.answerer.now, c.args.world.now) c.restart.new.self (c.restart.ensures ∙ ap fresh_feed c.KINDS.ensures))

pub returns-in-Bad : goal.returns-in-Bad
returns-in-Bad g c = at_bad_frame c.pieces.invariant.1.at c.in-Bad.ensures

pub returns-in-Undelivered : goal.returns-in-Undelivered
returns-in-Undelivered g c = at_sink c.pieces.invariant.1 c.in-Undelivered.ensures

pub returns-in-Ended : goal.returns-in-Ended
returns-in-Ended g c = at_its_end c.pieces.invariant.1 c.in-Ended.ensures

pub returns-then-read-limit : goal.returns-then-read-limit
returns-then-read-limit g c = at_limit c.pieces.invariant.1.at c.in-Partial.ensures (omega (arith, c.pieces.invariant.1.counted, c.if-read-limit.true))

pub returns-in-Err : goal.returns-in-Err
returns-in-Err g c =
    at_source (moves c.pieces.invariant.1.at c.in-Partial.ensures.answered) c.in-Partial.ensures.partial (omega (arith, c.pieces.invariant.1.counted, c.in-Partial.ensures.answered.fed, c.if-read-limit.false)) c.in-Err.ensures

pub returns-in-None : goal.returns-in-None
returns-in-None g c =
    at_done (reads_nothing {first = (c.args.answerer.now, c.args.world.now)} {now = desk (g.K.Sink.seen c.answer_all.new.outlet) c.answer_all.new.frames (c.answer_all.new.answerer, c.answer_all.new.world)} (moves c.pieces.invariant.1.at c.in-Partial.ensures.answered) c.in-Ok.ensures c.if-count-eq0.true (omega (arith, c.min-most.ensures)))
    (omega (arith, c.pieces.invariant.1.counted, c.in-Partial.ensures.answered.fed, c.if-read-limit.false)) c.in-Partial.ensures.partial c.in-None.ensures.found

pub returns-in-Some : goal.returns-in-Some
returns-in-Some g c =
    let there = c.in-Some.ensures.some in
    in_frame (reads_nothing {first = (c.args.answerer.now, c.args.world.now)} {now = desk (g.K.Sink.seen c.answer_all.new.outlet) c.answer_all.new.frames (c.answer_all.new.answerer, c.answer_all.new.world)} (moves c.pieces.invariant.1.at c.in-Partial.ensures.answered) c.in-Ok.ensures c.if-count-eq0.true (omega (arith, c.min-most.ensures)))
    (omega (arith, c.pieces.invariant.1.counted, c.in-Partial.ensures.answered.fed, c.if-read-limit.false)) there.0 there.1 there.2

pub pieces-preserved : goal.pieces-preserved
pieces-preserved g c =
    (c.in-Partial.ensures.ready, reads_on (moves c.pieces.invariant.1.at c.in-Partial.ensures.answered) c.in-Partial.ensures.partial c.in-Ok.ensures (c.pieces.invariant.1.counted ∙ sym c.in-Partial.ensures.answered.fed) (omega (arith, c.min-most.ensures)) (omega (arith, c.min-most.ensures)))
