-- The pieces of which a block is made, as the code holds them.
use Rattle.std.specs.Prelude.{◌≡◌, ℕ, ◌≤◌, List, ◌∷◌, ◌++◌, length, map, Option}
use Rattle.std.specs.List.{flat_map, AllByRecursion}
use Rattle.block_grammar.specs.PureHeader as plain
use Rattle.block_grammar.specs.Transaction.{Transaction, transaction_text, FitsTransaction, IsTransaction, txid_of}
use Rattle.block_grammar.specs.Merkle.{merkle_root_of}
use Rattle.nmc_base.specs.declared.chain_ends.Tip.{Tip}
use Rattle.block_maker.specs.declared.contents.Contents.{Contents}
use Rattle.block_maker.specs.declared.transaction.Single.{Single}
use Rattle.block_maker.specs.Generated.{Making, single_transaction, generated_transactions, generated_header}
use Rattle.block_maker.specs.Carried.{Carry}

abbrev pub seen_single : Single → Transaction
seen_single t = single_transaction t.version t.spent t.unlocking.now t.amount t.locking.now

-- the bytes are the transaction, and they are few
pub record IsShortTransaction (bytes : List ℕ) (t : Transaction) : Type 0 where
  pub transaction : IsTransaction bytes t
  pub short : length bytes ≤ 300000

-- these are the number, the texts and the root of the transactions of a block at a height
pub record Holds (contents : Contents) (height : ℕ) (asked : Option Making) : Type 0 where
  pub count : contents.count ≡ length (generated_transactions height asked)
  pub some : 1 ≤ contents.count
  pub few : contents.count ≤ 2
  pub fit : AllByRecursion FitsTransaction (generated_transactions height asked)
  pub text : contents.text ≡ flat_map transaction_text (generated_transactions height asked)
  pub root : contents.root.0 ≡ merkle_root_of (map txid_of (generated_transactions height asked))
  pub root_length : length contents.root.0 ≡ 32
  pub short : length contents.text ≤ 600000
  pub carry : Carry (generated_transactions height asked) asked

-- the bytes are a header with the contents' root, and the contents behind their number
pub record IsPutTogether (bytes : List ℕ) (previous : Tip) (contents : Contents) : Type 0 where
  pub text : bytes ≡ plain.pure_header_text (generated_header previous contents.root.0) ++ (contents.count ∷ contents.text)
  pub previous_length : length previous.hash.0 ≡ 32
