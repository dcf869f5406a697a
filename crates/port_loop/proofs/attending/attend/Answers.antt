use Rattle.std.proofs.Common.{◌∙◌, ap, arith}
use Rattle.feed_frames.specs.Feed.{fresh_feed}
use Rattle.port_loop.specs.Attending.{station}
use Rattle.port_loop.proofs.RunLemmas.{begins, goes_on, is_done, has_ended}
use Rattle.port_loop.proofs.attending.attend.Goals as goal

pub loop-polls-init : goal.loop-polls-init
loop-polls-init g c = (
  omega arith,
  begins g.T.Answerer.ready g.T.Answerer.reached (g.P.Port.seen c.args.port.now) (c.args.answerer.now, c.args.world.now) c.restart.new.self c.clear.new.self c.requires.bound c.requires.ready (c.restart.ensures ∙ ap fresh_feed c.KINDS.ensures)
      c.clear.ensures,
)

pub returns-in-Err : goal.returns-in-Err
returns-in-Err g c =
    has_ended (station (g.P.Port.seen c.loop-polls.port) c.loop-polls.buffers.frames c.loop-polls.buffers.streams (c.loop-polls.answerer, c.loop-polls.world))
    (station (g.P.Port.seen c.answer_poll.new.port) c.answer_poll.new.buffers.frames c.answer_poll.new.buffers.streams (c.answer_poll.new.answerer, c.answer_poll.new.world)) c.loop-polls.invariant.1 c.in-Err.ensures c.loop-polls-test.true

pub loop-polls-preserved : goal.loop-polls-preserved
loop-polls-preserved g c = (
  omega (arith, c.loop-polls-test.true),
  goes_on (station (g.P.Port.seen c.loop-polls.port) c.loop-polls.buffers.frames c.loop-polls.buffers.streams (c.loop-polls.answerer, c.loop-polls.world))
      (station (g.P.Port.seen c.answer_poll.new.port) c.answer_poll.new.buffers.frames c.answer_poll.new.buffers.streams (c.answer_poll.new.answerer, c.answer_poll.new.world)) c.loop-polls.invariant.1 c.in-Ok.ensures,
)

pub returns : goal.returns
returns g c = is_done (station (g.P.Port.seen c.loop-polls.port) c.loop-polls.buffers.frames c.loop-polls.buffers.streams (c.loop-polls.answerer, c.loop-polls.world)) c.loop-polls.invariant.1 (omega (arith, c.loop-polls.invariant.0, c.loop-polls-test.false))
