use Rattle.std.proofs.Common.{length}
use Rattle.dns_tcp.specs.Streams.{left_or_nothing}
use Rattle.port_loop.specs.Streaming.{AnswersMessages, counter}
use Rattle.port_loop.proofs.streaming.answer_messages.Given as goal

abbrev pub invariant-loop-answered : goal.invariant-loop-answered
invariant-loop-answered g l =
    g.T.Answerer.ready (l.answerer, l.world)
    × AnswersMessages g.T.Answerer.reached g.T.Answerer.reached l.client (left_or_nothing l.client l.fn.streams) (counter (g.P.Port.seen l.fn.port) l.fn.streams (l.fn.answerer, l.fn.world)) (counter (g.P.Port.seen l.port) l.streams (l.answerer, l.world))

abbrev pub decreases-loop-answered : goal.decreases-loop-answered
decreases-loop-answered g l = length (left_or_nothing l.client l.streams)
