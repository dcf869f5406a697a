use Rattle.std.proofs.Common.{arith, ◌∙◌}
use Rattle.tx_reader.proofs.Texts.{is_puts}
use Rattle.tx_reader.proofs.transaction.puts_in.Goals as goal

pub before-text-requires : goal.before-text-requires
before-text-requires c = (is_puts c.args.bytes.now c.in_ok-inputs.rest.now c.in_ok-outputs.after.now c.in_ok-inputs.inputs c.in_ok-outputs.outputs (λ i. omega (arith, c.type_inv.bytes i)) c.in_ok-inputs.ensures c.in_ok-outputs.ensures).shorter

pub returns-clause-text : goal.returns-clause-text
returns-clause-text c =
    c.before-text.ensures
    ∙ (is_puts c.args.bytes.now c.in_ok-inputs.rest.now c.in_ok-outputs.after.now c.in_ok-inputs.inputs c.in_ok-outputs.outputs (λ i. omega (arith, c.type_inv.bytes i)) c.in_ok-inputs.ensures c.in_ok-outputs.ensures).text

pub returns-clause-whole : goal.returns-clause-whole
returns-clause-whole c =
    rw c.before-text.ensures
    (is_puts c.args.bytes.now c.in_ok-inputs.rest.now c.in_ok-outputs.after.now c.in_ok-inputs.inputs c.in_ok-outputs.outputs (λ i. omega (arith, c.type_inv.bytes i)) c.in_ok-inputs.ensures c.in_ok-outputs.ensures).whole

pub returns-clause-some : goal.returns-clause-some
returns-clause-some c = (is_puts c.args.bytes.now c.in_ok-inputs.rest.now c.in_ok-outputs.after.now c.in_ok-inputs.inputs c.in_ok-outputs.outputs (λ i. omega (arith, c.type_inv.bytes i)) c.in_ok-inputs.ensures c.in_ok-outputs.ensures).some
