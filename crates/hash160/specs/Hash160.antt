-- HASH160, the hash of a name's commitment and of an address.
use Rattle.std.specs.Prelude.{ℕ, List}
use Rattle.sha2.specs.Sha256.{sha256}
use Rattle.hash160.specs.Ripemd160.{ripemd160}

-- the RIPEMD-160 of the SHA-256 of a message
abbrev pub hash160 : List ℕ → List ℕ
hash160 message = ripemd160 (sha256 message)
