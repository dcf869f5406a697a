use Rattle.std.proofs.Common.{◌≡◌, ◌-◌, false}
use Rattle.block_grammar.specs.Reading.{stacks_from}
use Rattle.wire_read.specs.Seen.{rest_read}
use Rattle.tx_reader.proofs.witness.behind_stacks.Given as goal

abbrev pub invariant-loop : goal.invariant-loop
invariant-loop l = rest_read (stacks_from l.some (l.more - l.counter) l.rest) ≡ rest_read (stacks_from false l.more l.bytes)
