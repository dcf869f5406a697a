use Rattle.std.proofs.Common.{◌≡◌, ◌-◌}
use Rattle.block_grammar.specs.Combinators.{many_from}
use Rattle.block_grammar.specs.Reading.{output_from}
use Rattle.wire_read.specs.Seen.{rest_read}
use Rattle.tx_reader.proofs.outputs.behind_outputs.Given as goal

abbrev pub invariant-loop : goal.invariant-loop
invariant-loop l = rest_read (many_from output_from (l.count - l.counter) l.rest) ≡ rest_read (many_from output_from l.count l.bytes)
