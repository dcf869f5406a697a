-- Headers of Bitcoin's block format ("Block Headers"), 80 bytes, as Namecoin calls them beside those with a merge-mining
-- part: version 4, previous block hash 32, Merkle root 32, time 4, bits 4, nonce 4.
use Rattle.std.specs.Prelude.{◌≡◌, ℕ, ◌<◌, ◌^◌, List, ◌++◌, length, IsBitSet}
use Rattle.std.specs.Int.{w32, to_le_bytes}

pub record PureHeader : Type 0 where
  pub version : ℕ
  pub previous : List ℕ
  pub root : List ℕ
  pub time : ℕ
  pub bits : ℕ
  pub nonce : ℕ

unfoldable pub pure_header_text : PureHeader → List ℕ
pure_header_text h = to_le_bytes w32 h.version ++ (h.previous ++ (h.root ++ (to_le_bytes w32 h.time ++ (to_le_bytes w32 h.bits ++ to_le_bytes w32 h.nonce))))

pub record FitsPureHeader (h : PureHeader) : Type 0 where
  pub version : h.version < 2 ^ 32
  pub previous : length h.previous ≡ 32
  pub root : length h.root ≡ 32
  pub time : h.time < 2 ^ 32
  pub bits : h.bits < 2 ^ 32
  pub nonce : h.nonce < 2 ^ 32

-- Version bit 0x100 says that a merge-mining part follows the 80 bytes (Namecoin's merged mining, "auxpow").
abbrev pub IsMerged : ℕ → Type 0
IsMerged version = IsBitSet version 8
