use Rattle.std.proofs.Common.{◌≡◌, ◌≤◌, length, take, drop, ◌++◌}
use Rattle.name_store.specs.Spelling.{spelled_from}
use Rattle.name_store.proofs.host_text.spell_from.Given as goal

abbrev pub invariant-loop-byte : goal.invariant-loop-byte
invariant-loop-byte l = (l.len ≡ l.byte-index) × (length l.rest ≤ length l.out) × (take l.byte-index l.out ++ spelled_from l.left (drop l.byte-index l.rest) ≡ spelled_from l.first l.rest)
