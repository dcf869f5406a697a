-- What answers are kept under, and when two keys are one.
use Rattle.std.specs.Prelude.{ℕ, ◌+◌, ◌*◌, ◌%◌, Bool, ◌==◌, ◌&&◌, if◌then◌else◌, bit_xor}
use Rattle.std.specs.Bool.{beq}
use Rattle.std.specs.Hash as fed
use Rattle.std.specs.Str.{bytes_eq}
use Rattle.answer_cache.specs.declared.asked_key.AskedKey.{AskedKey}
use Rattle.answer_cache.specs.declared.cache_key.CacheKey.{CacheKey}

-- the key that it stands for
abbrev pub key_of : AskedKey → CacheKey
key_of asked = record { accepted = asked.accepted; name = asked.name.now; mark = asked.mark; kind = asked.kind; limit = asked.limit; edns = asked.edns }

-- each of the six fields is the same
abbrev pub same_key : CacheKey → CacheKey → Bool
same_key a b = (a.mark == b.mark) && ((a.accepted == b.accepted) && ((a.kind == b.kind) && ((a.limit == b.limit) && (beq a.edns b.edns && bytes_eq a.name b.name))))

-- the fields but the name and its mark, in one number of 64 bits: of the count the low 31 bits, QTYPE, the limit, and whether there is an OPT record
abbrev pub key_number : CacheKey → ℕ
key_number key = key.accepted % 0x8000_0000 + key.kind * 0x8000_0000 + key.limit * 0x8000_0000_0000 + (if key.edns then 0x8000_0000_0000_0000 else 0)

-- what a key feeds to a hasher: that number and the mark of its name, in one
abbrev pub key_writes : CacheKey → fed.HashWrites
key_writes key = fed.u64 (bit_xor (key_number key) key.mark)
