use Rattle.std.proofs.Common.{◌≡◌, ◌+◌, ◌≤◌, length, option_map}
use Rattle.domain_text.specs.Reading.{name_length}
use Rattle.dns_message.proofs.name.name_len.Given as goal

abbrev pub invariant-loop-byte : goal.invariant-loop-byte
invariant-loop-byte l = (l.len + length l.rest ≤ length l.fn.bytes) × (option_map (λ n. l.len + n) (name_length 0 l.rest) ≡ name_length 0 l.fn.bytes)

abbrev pub decreases-loop-byte : goal.decreases-loop-byte
decreases-loop-byte l = length l.rest
