-- how hashes are written for people, and how outpoints are ordered
use Rattle.std.specs.Prelude.{ℕ, List, reverse}
use Rattle.std.specs.Cmp.Lexicographic.{slice_cmp}
use Rattle.std.specs.Ordering.{nat_cmp, ordering_then}
use Rattle.std.specs.declared.cmp.Ordering.{Ordering}
use Rattle.hex.specs.Hex.{encode_lower}
use Rattle.nmc_base.specs.declared.hashes.OutPoint.{OutPoint}

-- the hash of a block or of a transaction in the order in which people write it: its bytes from the
-- last to the first, as two hexadecimal digits each
abbrev pub display_text : List ℕ → List ℕ
display_text bytes = encode_lower (reverse bytes)

-- outpoints are ordered by the bytes of the txid, and then by the index
abbrev pub outpoint_cmp : OutPoint → OutPoint → Ordering
outpoint_cmp a b = ordering_then (slice_cmp nat_cmp a.txid.0 b.txid.0) (nat_cmp a.index b.index)
