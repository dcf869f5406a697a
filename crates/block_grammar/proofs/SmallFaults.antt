-- The faults of some bytes, by the readers on lists.
use Rattle.std.proofs.Common.{◌≡◌, [], ◌∷◌, drop, refl, arith, rules}
use Rattle.std.specs.Prelude.{Err}
use Rattle.block_grammar.specs.declared.kinds.TxKind.TheVariants.{Cut, LongForm, NoInput}
use Rattle.block_grammar.specs.declared.kinds.BlockKind.TheVariants.{NoTransaction}
use Rattle.block_grammar.specs.Examples.{longer_count, no_inputs, no_transactions}
use Rattle.block_grammar.specs.Reading.{size_from, flagged_body_from, flag_from, plain_body_from, body_from, transaction_from, fields_from, merged_from, header_from, count_from, block_front_from, block_from}
use Rattle.block_grammar.specs.Transaction.{transaction_text, FitsTransaction}
use Rattle.block_grammar.specs.FaultRows.{TransactionByte, IsTableFault}
use Rattle.block_grammar.specs.BlockRows.{BlockFaultRow}
use Rattle.block_grammar.proofs.Readers.{IsBytes-all}
use Rattle.block_grammar.proofs.FieldLaws.{IsBytes-replicate}
use Rattle.block_grammar.proofs.BodyLaws.{transaction_laws}
use Rattle.block_grammar.proofs.RowLaws.{fault_told}
use Rattle.block_grammar.proofs.FaultRowLaws.{transaction_bytes}
use Rattle.block_grammar.proofs.BlockRowLaws.{block_told}

longer_read : transaction_from longer_count ≡ Err (LongForm, drop 6 longer_count)
unfolding transaction_from body_from plain_body_from size_from
longer_read = refl

none_read : transaction_from no_inputs ≡ Err (NoInput, drop 6 no_inputs)
unfolding transaction_from body_from flag_from flagged_body_from size_from
none_read = refl

cut_read : transaction_from (1 ∷ 0 ∷ []) ≡ Err (Cut, drop 2 (1 ∷ 0 ∷ []))
unfolding transaction_from
cut_read = refl

block_read : block_from no_transactions ≡ Err (NoTransaction, drop 80 no_transactions)
unfolding block_from block_front_from header_from fields_from merged_from count_from
block_read = refl

pub longer_fault : IsTableFault transaction_text FitsTransaction TransactionByte longer_count LongForm 6
longer_fault = fault_told transaction_text FitsTransaction TransactionByte transaction_from transaction_laws transaction_bytes longer_count LongForm 6 (IsBytes-all longer_count (search rules)) (omega arith) longer_read

pub none_fault : IsTableFault transaction_text FitsTransaction TransactionByte no_inputs NoInput 6
none_fault = fault_told transaction_text FitsTransaction TransactionByte transaction_from transaction_laws transaction_bytes no_inputs NoInput 6 (IsBytes-all no_inputs (search rules)) (omega arith) none_read

pub cut_fault : IsTableFault transaction_text FitsTransaction TransactionByte (1 ∷ 0 ∷ []) Cut 2
cut_fault =
    fault_told transaction_text FitsTransaction TransactionByte transaction_from transaction_laws transaction_bytes (1 ∷ 0 ∷ []) Cut 2
    (IsBytes-all (1 ∷ 0 ∷ []) (search rules)) (omega arith) cut_read

pub block_fault : BlockFaultRow NoTransaction no_transactions 80
block_fault = block_told no_transactions NoTransaction 80 (IsBytes-replicate 81 0 (omega arith)) (omega arith) block_read
