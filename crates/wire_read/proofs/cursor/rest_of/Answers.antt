use Rattle.std.proofs.Common.{arith}
use Rattle.block_grammar.proofs.Readers.{IsBytes-drop}
use Rattle.wire_read.proofs.cursor.rest_of.Goals as goal

pub returns-clause-bytes : goal.returns-clause-bytes
returns-clause-bytes c = rw c.split_at.ensures.back (IsBytes-drop c.args.at c.args.bytes.now (λ i. omega (arith, c.type_inv.bytes i)))
