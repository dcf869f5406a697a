use Rattle.byte_io.specs.Port.{replied}
use Rattle.port_loop.proofs.NoteLemmas.{dropped, sent_to_client}
use Rattle.port_loop.proofs.sending.send_to_client.Goals as goal

pub returns-then-code-eq-DROPPED : goal.returns-then-code-eq-DROPPED
returns-then-code-eq-DROPPED g c = dropped (replied c.args.client c.args.reply.now.payload) (g.P.Port.seen c.args.port.now) c.args.reply.now (rw c.code.ensures at c.if-code-eq-DROPPED.true)

pub returns : goal.returns
returns g c =
    sent_to_client (replied c.args.client c.args.reply.now.payload) (g.P.Port.seen c.args.port.now) (g.P.Port.seen c.reply.new.self) c.args.reply.now c.reply.result (rw c.code.ensures at c.if-code-eq-DROPPED.false)
    (rw c.payload.ensures.value at c.reply.ensures)
