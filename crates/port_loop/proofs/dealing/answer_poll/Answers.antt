use Rattle.std.proofs.Common.{ℕ, take, sym, subst}
use Rattle.feed_frames.specs.Frames.{IsPartialFrame}
use Rattle.byte_io.specs.Port.{nothing, fault}
use Rattle.port_loop.specs.Polls.{at_nothing, at_fault}
use Rattle.frame_loop.specs.Answering.{desk}
use Rattle.port_loop.specs.Streaming.{counter}
use Rattle.port_loop.specs.Attending.{station}
use Rattle.port_loop.proofs.PollLemmas.{brings_nothing, brings_end, brings_stream_end, query_dealt, stream_dealt, piece_dealt}
use Rattle.port_loop.proofs.dealing.answer_poll.Goals as goal

pub feed_front-requires-clause-answered : goal.feed_front-requires-clause-answered
feed_front-requires-clause-answered g c = subst (λ (k : ℕ). IsPartialFrame k c.args.buffers.now.frames.left) (sym c.requires.reads) c.requires.answered

pub returns-in-Query : goal.returns-in-Query
returns-in-Query g c =
    query_dealt g.T.Answerer.KINDS g.T.Answerer.ready g.T.Answerer.reached g.T.Answerer.broken (station (g.P.Port.seen c.args.port.now) c.args.buffers.now.frames c.args.buffers.now.streams (c.args.answerer.now, c.args.world.now))
    (record { port = g.P.Port.seen c.poll.new.port; client = c.in-Query.client; message = take c.in-Query.len c.poll.new.self }) (g.P.Port.seen c.answer.new.port) (c.answer.new.answerer, c.answer.new.world) c.answer.result
    c.in-Query.ensures.noted c.requires.answered c.requires.parts (rw c.front.ensures.value at c.answer.ensures)

pub returns-in-Stream : goal.returns-in-Stream
returns-in-Stream g c =
    stream_dealt g.T.Answerer.KINDS g.T.Answerer.ready g.T.Answerer.reached g.T.Answerer.broken (station (g.P.Port.seen c.args.port.now) c.args.buffers.now.frames c.args.buffers.now.streams (c.args.answerer.now, c.args.world.now))
    (record { port = g.P.Port.seen c.poll.new.port; client = c.in-Stream.client; message = take c.in-Stream.len c.poll.new.self })
    (counter (g.P.Port.seen c.answer_stream.new.port) c.answer_stream.new.streams (c.answer_stream.new.answerer, c.answer_stream.new.world)) c.answer_stream.result
    c.in-Stream.ensures.noted (record { ready = c.requires.ready; partial = c.requires.answered; parts = c.requires.parts }) (rw c.front-piece.ensures.value at c.answer_stream.ensures)

pub returns-in-StreamEnd : goal.returns-in-StreamEnd
returns-in-StreamEnd g c =
    brings_stream_end g.T.Answerer.ready g.T.Answerer.reached (station (g.P.Port.seen c.args.port.now) c.args.buffers.now.frames c.args.buffers.now.streams (c.args.answerer.now, c.args.world.now)) c.in-StreamEnd.client (g.P.Port.seen c.poll.new.port) c.end.new.self
    c.in-StreamEnd.ensures c.end.ensures.now c.requires.ready c.requires.answered c.requires.parts

pub returns-in-Feed : goal.returns-in-Feed
returns-in-Feed g c =
    piece_dealt g.T.Answerer.KINDS g.T.Answerer.ready g.T.Answerer.reached g.T.Answerer.broken (station (g.P.Port.seen c.args.port.now) c.args.buffers.now.frames c.args.buffers.now.streams (c.args.answerer.now, c.args.world.now))
    (take c.in-Feed.len c.poll.new.self) (record { port = g.P.Port.seen c.poll.new.port; feed = c.feed_front.new.frames })
    (desk (g.P.Port.seen c.answer_piece.new.port) c.answer_piece.new.frames (c.answer_piece.new.answerer, c.answer_piece.new.world)) c.answer_piece.result
    (record { noted = c.in-Feed.ensures.noted; grown = c.feed_front.ensures.grown; within = c.feed_front.ensures.within }) c.requires.parts c.answer_piece.ensures

pub returns-in-FeedEnd : goal.returns-in-FeedEnd
returns-in-FeedEnd g c =
    brings_end g.T.Answerer.ready g.T.Answerer.reached (station (g.P.Port.seen c.args.port.now) c.args.buffers.now.frames c.args.buffers.now.streams (c.args.answerer.now, c.args.world.now)) (g.P.Port.seen c.poll.new.port) c.forget_feed.new.frames
    c.in-FeedEnd.ensures c.forget_feed.ensures c.requires.ready c.requires.parts

pub returns-in-Nothing : goal.returns-in-Nothing
returns-in-Nothing g c =
    brings_nothing g.T.Answerer.ready g.T.Answerer.reached (station (g.P.Port.seen c.args.port.now) c.args.buffers.now.frames c.args.buffers.now.streams (c.args.answerer.now, c.args.world.now)) (g.P.Port.seen c.poll.new.port) nothing
    at_nothing c.in-Nothing.ensures c.requires.ready c.requires.answered c.requires.parts

pub returns-in-Failed : goal.returns-in-Failed
returns-in-Failed g c =
    brings_nothing g.T.Answerer.ready g.T.Answerer.reached (station (g.P.Port.seen c.args.port.now) c.args.buffers.now.frames c.args.buffers.now.streams (c.args.answerer.now, c.args.world.now)) (g.P.Port.seen c.poll.new.port) fault
    at_fault c.in-Failed.ensures.noted c.requires.ready c.requires.answered c.requires.parts
