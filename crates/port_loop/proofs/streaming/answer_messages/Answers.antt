use Rattle.port_loop.specs.Streaming.{counter}
use Rattle.port_loop.proofs.StreamLemmas.{left_of_held, answers_none, answers_one_more, answers_first, answers_whole, less_is_left}
use Rattle.port_loop.proofs.streaming.answer_messages.Goals as goal

pub loop-answered-init : goal.loop-answered-init
loop-answered-init g c = (c.requires.ready, answers_none (counter (g.P.Port.seen c.args.port.now) c.args.streams.now (c.args.answerer.now, c.args.world.now)) (left_of_held c.args.client c.args.streams.now c.requires.held))

pub loop-answered-smaller : goal.loop-answered-smaller
loop-answered-smaller g c =
    let went = rw c.in-Ok.is at c.in-Some.ensures in
    less_is_left (counter (g.P.Port.seen c.loop-answered.port) c.loop-answered.streams (c.loop-answered.answerer, c.loop-answered.world))
    (counter (g.P.Port.seen c.answer_message.new.port) c.answer_message.new.streams (c.answer_message.new.answerer, c.answer_message.new.world)) went.one

pub loop-answered-preserved : goal.loop-answered-preserved
loop-answered-preserved g c =
    let went = rw c.in-Ok.is at c.in-Some.ensures in (
      went.ready,
      answers_one_more (counter (g.P.Port.seen c.args.port.now) c.args.streams.now (c.args.answerer.now, c.args.world.now)) (counter (g.P.Port.seen c.loop-answered.port) c.loop-answered.streams (c.loop-answered.answerer, c.loop-answered.world))
          (counter (g.P.Port.seen c.answer_message.new.port) c.answer_message.new.streams (c.answer_message.new.answerer, c.answer_message.new.world)) c.loop-answered.invariant.1 went.one,
    )

pub returns-in-Err : goal.returns-in-Err
returns-in-Err g c =
    let last = rw c.in-Err.is at c.in-Some.ensures in
    answers_first (counter (g.P.Port.seen c.args.port.now) c.args.streams.now (c.args.answerer.now, c.args.world.now)) (counter (g.P.Port.seen c.loop-answered.port) c.loop-answered.streams (c.loop-answered.answerer, c.loop-answered.world))
    (counter (g.P.Port.seen c.answer_message.new.port) c.answer_message.new.streams (c.answer_message.new.answerer, c.answer_message.new.world)) c.loop-answered.invariant.1 last

pub returns : goal.returns
returns g c =
    answers_whole (counter (g.P.Port.seen c.args.port.now) c.args.streams.now (c.args.answerer.now, c.args.world.now)) (counter (g.P.Port.seen c.loop-answered.port) c.loop-answered.streams (c.loop-answered.answerer, c.loop-answered.world))
    (counter (g.P.Port.seen c.answer_message.new.port) c.answer_message.new.streams (c.answer_message.new.answerer, c.answer_message.new.world)) c.loop-answered.invariant.0 c.loop-answered.invariant.1 c.in_default.ensures
