-- The hash of Bitcoin's block format.
use Rattle.std.specs.Prelude.{◌≡◌, ℕ, List, length}
use Rattle.sha2.specs.Sha256.{sha256}

-- SHA-256 (FIPS 180-4) applied twice
abbrev pub double_sha256 : List ℕ → List ℕ
double_sha256 bytes = sha256 (sha256 bytes)

abbrev pub IsHash : List ℕ → Type 0
IsHash bytes = length bytes ≡ 32
