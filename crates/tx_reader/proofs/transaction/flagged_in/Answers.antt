use Rattle.std.proofs.Common.{arith, Some}
use Rattle.tx_reader.proofs.Texts.{flagged_text}
use Rattle.tx_reader.proofs.transaction.flagged_in.Goals as goal

pub invariant_of-tx : goal.invariant_of-tx
invariant_of-tx c =
    rw c.before-tail.ensures
    (flagged_text (record { version = c.args.version; inputs = c.in_ok-puts.puts.inputs; outputs = c.in_ok-puts.puts.outputs; witness = Some c.in_ok-witness.witness; lock_time = c.in_ok-lock_time.lock_time })
    c.args.front.now c.args.bytes.now c.in_ok-puts.puts.text.now c.in_ok-puts.rest.now c.in_ok-witness.rest.now c.in_ok-lock_time.after.now _ c.in_ok-witness.witness (λ i. omega (arith, c.type_inv.bytes i)) c.requires
    c.in_ok-puts.ensures.whole c.in_ok-puts.ensures.text c.in_ok-witness.ensures c.in_ok-lock_time.ensures)
