-- Blocks of Bitcoin's block format ("block"), with Namecoin's merge-mining part.
use Rattle.std.specs.Prelude.{◌≡◌, ℕ, ◌+◌, ◌<◌, ◌≤◌, ◌^◌, List, [], ◌∷◌, ◌++◌, length, take}
use Rattle.std.specs.List.{AllByRecursion}
use Rattle.block_grammar.specs.CompactSize.{counted_list}
use Rattle.block_grammar.specs.Hashes.{double_sha256}
use Rattle.block_grammar.specs.Transaction.{Transaction, transaction_text, FitsTransaction}
use Rattle.block_grammar.specs.Header.{Header, header_text, FitsHeader}

pub record Block : Type 0 where
  pub header : Header
  pub transactions : List Transaction

unfoldable pub block_text : Block → List ℕ
block_text b = header_text b.header ++ counted_list transaction_text b.transactions

pub record FitsBlock (b : Block) : Type 0 where
  pub header : FitsHeader b.header
  pub some_transaction : 1 ≤ length b.transactions
  pub transaction_count : length b.transactions < 2 ^ 64
  pub transactions : AllByRecursion FitsTransaction b.transactions

-- the bytes are the block, all of them
pub record IsBlock (bytes : List ℕ) (b : Block) : Type 0 where
  pub fits : FitsBlock b
  pub text : bytes ≡ block_text b

-- how many outputs transactions have
abbrev pub count_outputs : List Transaction → ℕ
count_outputs [] = 0
count_outputs (t ∷ ts) = length t.outputs + count_outputs ts

-- the hash of a block, of the 80 bytes at its front
abbrev pub block_hash : List ℕ → List ℕ
block_hash block = double_sha256 (take 80 block)
