use Rattle.std.proofs.Common.{◌≡◌, ◌-◌}
use Rattle.block_grammar.specs.Combinators.{within, many_from}
use Rattle.block_grammar.specs.Reading.{transaction_from}
use Rattle.block_grammar.specs.declared.kinds.BlockKind.TheVariants.{Transaction}
use Rattle.wire_read.specs.Seen.{rest_read}
use Rattle.block_reader.proofs.parts.behind_transactions.Given as goal

abbrev pub invariant-loop : goal.invariant-loop
invariant-loop l = rest_read (many_from (within Transaction transaction_from) (l.count - l.counter) l.rest) ≡ rest_read (many_from (within Transaction transaction_from) l.count l.bytes)
