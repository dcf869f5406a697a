use Rattle.std.proofs.Common.{◌++◌, sym}
use Rattle.dns_tcp.specs.Streams.{left_or_nothing}
use Rattle.port_loop.specs.Streaming.{counter}
use Rattle.port_loop.proofs.StreamLemmas.{parts_waiting, held_behind, piece_taken}
use Rattle.port_loop.proofs.streaming.answer_stream.Goals as goal

pub feed-requires-clause-waiting : goal.feed-requires-clause-waiting
feed-requires-clause-waiting g c = parts_waiting c.args.client c.args.streams.now c.requires.answered

pub answer_messages-requires-clause-held : goal.answer_messages-requires-clause-held
answer_messages-requires-clause-held g c =
    held_behind c.args.client (left_or_nothing c.args.client c.args.streams.now ++ c.args.piece.now) c.args.streams.now c.feed.new.self c.if-not-feed.ensures.fed

pub returns : goal.returns
returns g c =
    piece_taken g.T.Answerer.ready g.T.Answerer.reached g.T.Answerer.broken c.args.client c.args.piece.now (counter (g.P.Port.seen c.args.port.now) c.args.streams.now (c.args.answerer.now, c.args.world.now)) c.feed.new.self c.if-not-feed.ensures.fed
    (counter (g.P.Port.seen c.answer_messages.new.port) c.answer_messages.new.streams (c.answer_messages.new.answerer, c.answer_messages.new.world)) c.answer_messages.result (sym c.if-not-feed.ensures.answer) c.answer_messages.ensures
