use Rattle.std.proofs.Common.{arith, None}
use Rattle.tx_reader.proofs.Texts.{plain_text}
use Rattle.tx_reader.proofs.transaction.plain_in.Goals as goal

pub invariant_of-tx : goal.invariant_of-tx
invariant_of-tx c =
    rw c.before-front.ensures
    (plain_text (record { version = c.args.version; inputs = c.in_ok-puts.puts.inputs; outputs = c.in_ok-puts.puts.outputs; witness = None; lock_time = c.in_ok-lock_time.lock_time })
    c.args.whole.now c.args.bytes.now c.in_ok-puts.puts.text.now c.in_ok-puts.rest.now c.in_ok-lock_time.after.now (λ i. omega (arith, c.type_inv.bytes i)) c.requires c.in_ok-puts.ensures.whole c.in_ok-puts.ensures.text c.in_ok-lock_time.ensures)
