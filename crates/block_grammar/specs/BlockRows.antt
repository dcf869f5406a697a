-- The table of faults of a block: the part in which the place stands or, where the input is cut, would stand; and the row of
-- that part's own table.
use Rattle.std.specs.Prelude.{◌≡◌, ℕ, ◌+◌, ◌<◌, ◌^◌, List, ◌∷◌, ◌++◌, length}
use Rattle.std.specs.List.{flat_map, AllByRecursion}
use Rattle.block_grammar.specs.declared.kinds.TxKind.{TxKind}
use Rattle.block_grammar.specs.declared.kinds.BlockKind.{BlockKind}
use Rattle.block_grammar.specs.declared.kinds.BlockKind.TheVariants.{Header as in_header, Count as in_count, NoTransaction, Transaction as in_transaction, Trailing}
use Rattle.block_grammar.specs.CompactSize.{compact_size}
use Rattle.block_grammar.specs.Transaction.{Transaction, transaction_text, FitsTransaction}
use Rattle.block_grammar.specs.Header.{Header, header_text, FitsHeader}
use Rattle.block_grammar.specs.Block.{Block, block_text, FitsBlock}
use Rattle.block_grammar.specs.FaultRows.{SizeByte, TransactionByte, HeaderByte, IsTableFault}

-- the fault stands in what follows the front
pub record IsBehind (front : List ℕ) (Fault : List ℕ → ℕ → Type 0) (bytes : List ℕ) (place : ℕ) : Type 0 where
  pub body : List ℕ
  pub text : bytes ≡ front ++ body
  pub inside : ℕ
  pub fault : Fault body inside
  pub place_is : place ≡ length front + inside

abbrev pub FitsSize : ℕ → Type 0
FitsSize n = n < 2 ^ 64

-- in the number of transactions, behind the header
pub record HasCountFault (bytes : List ℕ) (kind : TxKind) (place : ℕ) : Type 0 where
  pub header : Header
  pub header_fits : FitsHeader header
  pub behind : IsBehind (header_text header) (λ body inside. IsTableFault compact_size FitsSize SizeByte body kind inside) bytes place

-- the number 00 of transactions stands behind the header
pub record HasNoTransaction (bytes : List ℕ) (place : ℕ) : Type 0 where
  pub header : Header
  pub header_fits : FitsHeader header
  pub more : List ℕ
  pub text : bytes ≡ header_text header ++ (0 ∷ more)
  pub place_is : place ≡ length (header_text header)

-- in a transaction, behind the header, the number of transactions and fewer transactions than it says
pub record HasTransactionFault (bytes : List ℕ) (kind : TxKind) (place : ℕ) : Type 0 where
  pub header : Header
  pub header_fits : FitsHeader header
  pub count : ℕ
  pub count_fits : FitsSize count
  pub before : List Transaction
  pub before_fit : AllByRecursion FitsTransaction before
  pub fewer : length before < count
  pub behind : IsBehind (header_text header ++ (compact_size count ++ flat_map transaction_text before))
      (λ body inside. IsTableFault transaction_text FitsTransaction TransactionByte body kind inside) bytes place

-- a byte stands behind the block
pub record HasTrailing (bytes : List ℕ) (place : ℕ) : Type 0 where
  pub block : Block
  pub fits : FitsBlock block
  pub byte : ℕ
  pub more : List ℕ
  pub text : bytes ≡ block_text block ++ (byte ∷ more)
  pub place_is : place ≡ length (block_text block)

abbrev pub BlockFaultRow : BlockKind → List ℕ → ℕ → Type 0
BlockFaultRow (in_header kind) bytes place = IsTableFault header_text FitsHeader HeaderByte bytes kind place
BlockFaultRow (in_count kind) bytes place = HasCountFault bytes kind place
BlockFaultRow NoTransaction bytes place = HasNoTransaction bytes place
BlockFaultRow (in_transaction kind) bytes place = HasTransactionFault bytes kind place
BlockFaultRow Trailing bytes place = HasTrailing bytes place
