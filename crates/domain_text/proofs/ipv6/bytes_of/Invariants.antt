use Rattle.std.proofs.Common.{◌≡◌, ◌*◌, take, length}
use Rattle.domain_text.specs.Ipv6.{address_bytes}
use Rattle.domain_text.proofs.ipv6.bytes_of.Given as goal

abbrev pub invariant-loop-i : goal.invariant-loop-i
invariant-loop-i l = record { long : length l.bytes ≡ 16; text : take (2 * l.i) l.bytes ≡ address_bytes (take l.i l.fn.groups) }
