use Rattle.std.proofs.Common.{arith}
use Rattle.tx_reader.proofs.Texts.{version_parts}
use Rattle.tx_reader.proofs.transaction.transaction_in.Goals as goal

pub body_in-requires : goal.body_in-requires
body_in-requires c = version_parts c.args.bytes.now c.in_ok-version.version c.in_ok-version.rest.now (λ i. omega (arith, c.type_inv.bytes i)) c.in_ok-version.ensures
