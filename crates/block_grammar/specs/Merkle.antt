-- The Merkle root of a block's transactions ("Merkle Trees" of Bitcoin's block format).
use Rattle.std.specs.Prelude.{ℕ, zero, suc, List, [], ◌∷◌, ◌++◌, length, map}
use Rattle.block_grammar.specs.Hashes.{double_sha256}
use Rattle.block_grammar.specs.Transaction.{txid_of}
use Rattle.block_grammar.specs.Block.{Block}

-- neighbours joined and hashed twice; the last hash of an odd row is joined with itself
abbrev pub paired_row : List (List ℕ) → List (List ℕ)
paired_row [] = []
paired_row (hash ∷ []) = double_sha256 (hash ++ hash) ∷ []
paired_row (left ∷ right ∷ hashes) = double_sha256 (left ++ right) ∷ paired_row hashes

-- row above row, at most so many, until one hash is left
abbrev pub row_root : ℕ → List (List ℕ) → List ℕ
row_root rows [] = []
row_root rows (hash ∷ []) = hash
row_root zero (left ∷ right ∷ hashes) = []
row_root (suc rows) (left ∷ right ∷ hashes) = row_root rows (paired_row (left ∷ right ∷ hashes))

-- each row above a longer one is shorter, so there are fewer rows than hashes
unfoldable pub merkle_root_of : List (List ℕ) → List ℕ
merkle_root_of hashes = row_root (length hashes) hashes

-- the root of a block's transactions
unfoldable pub block_root : Block → List ℕ
block_root b = merkle_root_of (map txid_of b.transactions)
