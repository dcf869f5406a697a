use Rattle.std.proofs.Common.{◌≡◌, ◌-◌}
use Rattle.block_grammar.specs.Combinators.{many_from}
use Rattle.block_grammar.specs.Reading.{piece_from}
use Rattle.wire_read.specs.Seen.{rest_read}
use Rattle.auxpow_header.proofs.merge_part.behind_hashes.Given as goal

abbrev pub invariant-loop : goal.invariant-loop
invariant-loop l = rest_read (many_from (piece_from 32) (l.count - l.counter) l.rest) ≡ rest_read (many_from (piece_from 32) l.count l.bytes)
