use Rattle.std.proofs.Common.{◌≡◌, ◌+◌, ◌++◌, take}
use Rattle.domain_text.specs.Names.{lower}
use Rattle.dns_message.proofs.write.put_lower.Given as goal

abbrev pub invariant-loop-byte : goal.invariant-loop-byte
invariant-loop-byte l = (l.end ≡ l.at + l.byte-index) × (take l.end l.buf ≡ take l.at l.initial.buf ++ lower (take l.byte-index l.piece))
