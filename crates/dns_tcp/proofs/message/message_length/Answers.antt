use Rattle.std.proofs.Common.{rules, arith}
use Rattle.dns_tcp.proofs.FrontLemmas.{whole_front, cut_front, short_front}
use Rattle.dns_tcp.proofs.message.message_length.Goals as goal

pub returns-in_default : goal.returns-in_default
returns-in_default c = short_front c.args.bytes.now (search rules) (λ i. omega (arith, c.type_inv.bytes i))

pub returns-then-rest-length : goal.returns-then-rest-length
returns-then-rest-length c =
    cut_front c.args.bytes.now c.from_be_bytes-length.result
    (record { long = c.in-len2-up.len_at_least; fits = λ i. omega (arith, c.type_inv.bytes i); length_is = c.from_be_bytes-length.ensures }) (search rules)

pub returns-else-rest-length : goal.returns-else-rest-length
returns-else-rest-length c =
    whole_front c.args.bytes.now c.from_be_bytes-length.result
    (record { long = c.in-len2-up.len_at_least; fits = λ i. omega (arith, c.type_inv.bytes i); length_is = c.from_be_bytes-length.ensures }) (search rules)
