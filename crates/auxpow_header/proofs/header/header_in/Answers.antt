use Rattle.std.proofs.Common.{arith, ◌∙◌}
use Rattle.auxpow_header.specs.Seen.{seen_fields}
use Rattle.auxpow_header.proofs.Parts.{is_front}
use Rattle.auxpow_header.proofs.header.header_in.Goals as goal

pub before-text-requires : goal.before-text-requires
before-text-requires c = (is_front c.args.bytes.now c.in_ok-fields.behind.now (seen_fields c.in_ok-fields.fields) (λ i. omega (arith, c.type_inv.bytes i)) c.in_ok-fields.ensures).shorter

pub invariant_of-header : goal.invariant_of-header
invariant_of-header c = c.before-text.ensures ∙ (is_front c.args.bytes.now c.in_ok-fields.behind.now (seen_fields c.in_ok-fields.fields) (λ i. omega (arith, c.type_inv.bytes i)) c.in_ok-fields.ensures).text
