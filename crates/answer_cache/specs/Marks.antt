-- The number that stands for a name: by it a key is hashed, and names are told apart before their bytes are compared.
use Rattle.std.specs.Prelude.{ℕ, List, length, nat_le, if◌then◌else◌}
use Rattle.std.specs.Hash.DefaultHasher as sip
use Rattle.std.specs.Hash.FoldHasher as folding

-- of a name of at most 32 bytes what the quick hash of std makes of its bytes; of another what SipHash-1-3 makes of them
abbrev pub mark_of : List ℕ → ℕ
mark_of name = if nat_le (length name) 32 then folding.finish (folding.write folding.initial name) else sip.finish (sip.write sip.initial name)
