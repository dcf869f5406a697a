-- The merge-mining part that Namecoin's merged mining ("auxpow") adds to a header.
use Rattle.std.specs.Prelude.{ℕ, ◌<◌, ◌^◌, List, ◌++◌, length}
use Rattle.std.specs.List.{AllByRecursion}
use Rattle.std.specs.Int.{w32, to_le_bytes}
use Rattle.block_grammar.specs.CompactSize.{counted_list}
use Rattle.block_grammar.specs.Hashes.{IsHash}
use Rattle.block_grammar.specs.Transaction.{Transaction, transaction_text, FitsTransaction}
use Rattle.block_grammar.specs.PureHeader.{PureHeader, pure_header_text, FitsPureHeader}

-- Where a block of another chain, the parent, did the work: that chain's coinbase transaction; the hash of the parent
-- block; the Merkle branch from the coinbase to the parent's root, and its index; the branch from this block's hash to
-- the root that the coinbase names, and its index; the parent's header of 80 bytes.
pub record MergePart : Type 0 where
  pub coinbase : Transaction
  pub parent_hash : List ℕ
  pub coinbase_branch : List (List ℕ)
  pub coinbase_index : ℕ
  pub chain_branch : List (List ℕ)
  pub chain_index : ℕ
  pub parent : PureHeader

abbrev pub itself : List ℕ → List ℕ
itself bytes = bytes

-- a counted list of hashes
abbrev pub branch_text : List (List ℕ) → List ℕ
branch_text hashes = counted_list itself hashes

unfoldable pub merge_part_text : MergePart → List ℕ
merge_part_text m =
    transaction_text m.coinbase ++ (m.parent_hash ++ (branch_text m.coinbase_branch ++ (to_le_bytes w32 m.coinbase_index ++ (branch_text m.chain_branch ++ (to_le_bytes w32 m.chain_index ++ pure_header_text m.parent)))))

pub record FitsBranch (branch : List (List ℕ)) : Type 0 where
  pub count : length branch < 2 ^ 64
  pub hashes : AllByRecursion IsHash branch

pub record FitsMergePart (m : MergePart) : Type 0 where
  pub coinbase : FitsTransaction m.coinbase
  pub parent_hash : IsHash m.parent_hash
  pub coinbase_branch : FitsBranch m.coinbase_branch
  pub coinbase_index : m.coinbase_index < 2 ^ 32
  pub chain_branch : FitsBranch m.chain_branch
  pub chain_index : m.chain_index < 2 ^ 32
  pub parent : FitsPureHeader m.parent
