-- The readers of fields, transactions, headers and blocks.
use Rattle.std.specs.Prelude.{ℕ, zero, suc, ◌-◌, ◌^◌, Bool, true, false, ◌||◌, ◌==◌, nat_lt, if◌then◌else◌, List, [], ◌∷◌, length, take, drop, Option, Some, None, Result, Ok, Err, bit_and}
use Rattle.std.specs.Int.{Width, w16, w32, w64, byte_len, from_le_bytes}
use Rattle.block_grammar.specs.Transaction.{TxInput, TxOutput, Transaction}
use Rattle.block_grammar.specs.PureHeader.{PureHeader}
use Rattle.block_grammar.specs.declared.kinds.TxKind.{TxKind}
use Rattle.block_grammar.specs.declared.kinds.TxKind.TheVariants.{Cut, LongForm, BadFlag, NoInput, NoOutput, EmptyWitness}
use Rattle.block_grammar.specs.declared.kinds.BlockKind.{BlockKind}
use Rattle.block_grammar.specs.declared.kinds.BlockKind.TheVariants.{Header as in_header, Count as in_count, NoTransaction, Transaction as in_transaction, Trailing}
use Rattle.block_grammar.specs.Witness.{has_item}
use Rattle.block_grammar.specs.MergePart.{MergePart}
use Rattle.block_grammar.specs.Header.{Header}
use Rattle.block_grammar.specs.Block.{Block}
use Rattle.block_grammar.specs.Combinators.{Reader, then_from, map_from, many_from, within, nonzero_from}

-- ---- fields

-- a number of so many bits, low byte first
abbrev pub number_from : Width → Reader TxKind ℕ
number_from w bytes = if nat_lt (length bytes) (byte_len w) then Err (Cut, []) else Ok (from_le_bytes w (take (byte_len w) bytes), drop (byte_len w) bytes)

-- so many bytes
abbrev pub piece_from : ℕ → Reader TxKind (List ℕ)
piece_from n bytes = if nat_lt (length bytes) n then Err (Cut, []) else Ok (take n bytes, drop n bytes)

-- the number behind the mark of a compact size, which must have no shorter form
abbrev pub marked_from : Width → ℕ → Reader TxKind ℕ
marked_from w least bytes =
    if nat_lt (length bytes) (byte_len w) then Err (Cut, [])
    else (if nat_lt (from_le_bytes w (take (byte_len w) bytes)) least then Err (LongForm, drop (byte_len w - 1) bytes)
    else Ok (from_le_bytes w (take (byte_len w) bytes), drop (byte_len w) bytes))

-- a compact size of the shortest form
unfoldable pub size_from : Reader TxKind ℕ
size_from [] = Err (Cut, [])
size_from (first ∷ rest) =
    if nat_lt first 0xFD then Ok (first, rest)
    else (if first == 0xFD then marked_from w16 0xFD rest
    else (if first == 0xFE then marked_from w32 (2 ^ 16) rest
    else marked_from w64 (2 ^ 32) rest))

-- bytes behind their number
unfoldable pub counted_from : Reader TxKind (List ℕ)
counted_from = map_from (λ x. x.1) (then_from size_from piece_from)

-- values behind their number
abbrev pub list_from : {A : Type 0} → Reader TxKind A → Reader TxKind (List A)
list_from read = map_from (λ x. x.1) (then_from size_from (many_from read))

-- values behind their number, which is 1 at least
abbrev pub some_from : {A : Type 0} → TxKind → Reader TxKind A → Reader TxKind (List A)
some_from kind read = map_from (λ x. x.1) (then_from (nonzero_from kind size_from) (many_from read))

-- ---- transactions

unfoldable pub input_from : Reader TxKind TxInput
input_from = map_from (λ x. record { txid = x.0; index = x.1.0; script = x.1.1.0; sequence = x.1.1.1 })
    (then_from (piece_from 32) (λ _. then_from (number_from w32) (λ _. then_from counted_from (λ _. number_from w32))))

unfoldable pub output_from : Reader TxKind TxOutput
output_from = map_from (λ x. record { value = x.0; script = x.1 }) (then_from (number_from w64) (λ _. counted_from))

unfoldable pub stack_from : Reader TxKind (List (List ℕ))
stack_from = list_from counted_from

-- the last list of a witness: it isn't empty where all before it are
unfoldable pub last_stack_from : Bool → Reader TxKind (List (List ℕ))
last_stack_from true = stack_from
last_stack_from false = nonzero_from EmptyWitness stack_from

-- so many lists and the last one; whether a list before them isn't empty
unfoldable pub stacks_from : Bool → ℕ → Reader TxKind (List (List (List ℕ)))
stacks_from some zero = map_from (λ x. x ∷ []) (last_stack_from some)
stacks_from some (suc n) = map_from (λ x. x.0 ∷ x.1) (then_from stack_from (λ x. stacks_from (some || has_item x) n))

-- what stands behind a transaction's version
pub data Body : Type 0 where
  plain_body : List TxInput → List TxOutput → ℕ → Body
  flagged_body : List TxInput → List TxOutput → List (List (List ℕ)) → ℕ → Body

unfoldable pub plain_body_from : Reader TxKind Body
plain_body_from = map_from (λ x. plain_body x.0 x.1.0 x.1.1)
    (then_from (some_from NoInput input_from) (λ _. then_from (some_from NoOutput output_from) (λ _. number_from w32)))

unfoldable pub flagged_body_from : Reader TxKind Body
flagged_body_from = map_from (λ x. flagged_body x.0 x.1.0 x.1.1.0 x.1.1.1)
    (then_from (some_from NoInput input_from) (λ inputs. then_from (some_from NoOutput output_from) (λ _. then_from (stacks_from false (length inputs - 1)) (λ _. number_from w32))))

-- behind the marker: the flag, and what it announces
unfoldable pub flag_from : Reader TxKind Body
flag_from [] = Err (Cut, [])
flag_from (flag ∷ rest) = if flag == 1 then flagged_body_from rest else Err (BadFlag, flag ∷ rest)

-- the marker stands where a plain transaction has its number of inputs
unfoldable pub body_from : Reader TxKind Body
body_from [] = Err (Cut, [])
body_from (first ∷ rest) = if first == 0 then flag_from rest else plain_body_from (first ∷ rest)

abbrev pub with_body : ℕ → Body → Transaction
with_body version (plain_body inputs outputs lock_time) =
    record { version = version; inputs = inputs; outputs = outputs; witness = None; lock_time = lock_time }
with_body version (flagged_body inputs outputs stacks lock_time) =
    record { version = version; inputs = inputs; outputs = outputs; witness = Some stacks; lock_time = lock_time }

unfoldable pub transaction_from : Reader TxKind Transaction
transaction_from = map_from (λ x. with_body x.0 x.1) (then_from (number_from w32) (λ _. body_from))

-- ---- headers

unfoldable pub fields_from : Reader TxKind PureHeader
fields_from = map_from (λ x. record { version = x.0; previous = x.1.0; root = x.1.1.0; time = x.1.1.1.0; bits = x.1.1.1.1.0; nonce = x.1.1.1.1.1 })
    (then_from (number_from w32) (λ _. then_from (piece_from 32) (λ _. then_from (piece_from 32) (λ _. then_from (number_from w32) (λ _. then_from (number_from w32) (λ _. number_from w32))))))

unfoldable pub branch_from : Reader TxKind (List (List ℕ))
branch_from = list_from (piece_from 32)

unfoldable pub merge_part_from : Reader TxKind MergePart
merge_part_from = map_from (λ x. record {
  coinbase = x.0;
  parent_hash = x.1.0;
  coinbase_branch = x.1.1.0;
  coinbase_index = x.1.1.1.0;
  chain_branch = x.1.1.1.1.0;
  chain_index = x.1.1.1.1.1.0;
  parent = x.1.1.1.1.1.1;
})
    (then_from transaction_from (λ _. then_from (piece_from 32) (λ _. then_from branch_from (λ _. then_from (number_from w32) (λ _. then_from branch_from (λ _. then_from (number_from w32) (λ _. fields_from)))))))

-- the merge-mining part, where the version has bit 0x100
unfoldable pub merged_from : ℕ → Reader TxKind (Option MergePart)
merged_from version bytes = if bit_and version 0x100 == 0 then Ok (None, bytes) else map_from (λ m. Some m) merge_part_from bytes

unfoldable pub header_from : Reader TxKind Header
header_from = map_from (λ x. record { fields = x.0; merged = x.1 }) (then_from fields_from (λ fields. merged_from fields.version))

-- ---- blocks

unfoldable pub count_from : Reader BlockKind ℕ
count_from = nonzero_from NoTransaction (within in_count size_from)

-- the block at the front, whatever follows
unfoldable pub block_front_from : Reader BlockKind Block
block_front_from = map_from (λ x. record { header = x.0; transactions = x.1.1 })
    (then_from (within in_header header_from) (λ _. then_from count_from (many_from (within in_transaction transaction_from))))

-- all bytes are the block
abbrev pub ended : Result (Block × List ℕ) (BlockKind × List ℕ) → Result Block (BlockKind × List ℕ)
ended (Ok (block, [])) = Ok block
ended (Ok (block, byte ∷ rest)) = Err (Trailing, byte ∷ rest)
ended (Err e) = Err e

unfoldable pub block_from : List ℕ → Result Block (BlockKind × List ℕ)
block_from bytes = ended (block_front_from bytes)
