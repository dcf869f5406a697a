use Rattle.byte_io.specs.Port.{stream_replied}
use Rattle.dns_tcp.specs.Messages.{message_text}
use Rattle.port_loop.proofs.NoteLemmas.{dropped, sent_to_client}
use Rattle.port_loop.proofs.sending.send_to_stream.Goals as goal

pub returns-then-code-eq-DROPPED : goal.returns-then-code-eq-DROPPED
returns-then-code-eq-DROPPED g c =
    dropped (stream_replied c.args.client (message_text c.args.outbox.now.reply.payload)) (g.P.Port.seen c.args.port.now) c.args.outbox.now.reply (rw c.code.ensures at c.if-code-eq-DROPPED.true)

pub returns : goal.returns
returns g c =
    sent_to_client (stream_replied c.args.client (message_text c.args.outbox.now.reply.payload)) (g.P.Port.seen c.args.port.now) (g.P.Port.seen c.stream_reply.new.self) c.args.outbox.now.reply c.stream_reply.result
    (rw c.code.ensures at c.if-code-eq-DROPPED.false) (rw (c.bytes.ensures, c.set.ensures, c.payload.ensures.value) at c.stream_reply.ensures)
