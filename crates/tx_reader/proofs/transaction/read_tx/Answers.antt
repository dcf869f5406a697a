use Rattle.std.proofs.Common.{arith, length, ◌-◌}
use Rattle.std.specs.Prelude.{Ok, Err}
use Rattle.block_grammar.specs.Transaction.{transaction_text, FitsTransaction}
use Rattle.block_grammar.specs.Reading.{transaction_from}
use Rattle.block_grammar.proofs.BodyLaws.{transaction_laws}
use Rattle.block_grammar.specs.FaultRows.{TransactionByte}
use Rattle.block_grammar.proofs.FaultRowLaws.{transaction_bytes}
use Rattle.wire_read.proofs.FrontLaws.{ok_gives, err_gives, is_read, only_read}
use Rattle.tx_reader.proofs.transaction.read_tx.Goals as goal

pub overflow_sub-result : goal.overflow_sub-result
overflow_sub-result c = (ok_gives transaction_text FitsTransaction transaction_from transaction_laws c.args.bytes.now c.in-Ok.tx c.in-Ok.rest.now (λ i. omega (arith, c.type_inv.bytes i)) c.in-Ok.ensures).shorter

pub overflow_sub-result-in-Err : goal.overflow_sub-result-in-Err
overflow_sub-result-in-Err c = (err_gives transaction_text FitsTransaction transaction_from transaction_laws c.args.bytes.now c.in-Err.fault.kind c.in-Err.fault.rest.now (λ i. omega (arith, c.type_inv.bytes i)) c.in-Err.ensures).shorter

pub returns-in-Ok-clause-read : goal.returns-in-Ok-clause-read
returns-in-Ok-clause-read c = is_read transaction_text FitsTransaction TransactionByte transaction_from transaction_laws transaction_bytes c.args.bytes.now (Ok (c.in-Ok.tx, length c.args.bytes.now - length c.in-Ok.rest.now)) (λ i. omega (arith, c.type_inv.bytes i)) (ok_gives transaction_text FitsTransaction transaction_from transaction_laws c.args.bytes.now c.in-Ok.tx c.in-Ok.rest.now (λ i. omega (arith, c.type_inv.bytes i)) c.in-Ok.ensures).gives

pub returns-in-Ok-clause-only : goal.returns-in-Ok-clause-only
returns-in-Ok-clause-only c = only_read transaction_text FitsTransaction transaction_from transaction_laws c.args.bytes.now (Ok (c.in-Ok.tx, length c.args.bytes.now - length c.in-Ok.rest.now)) (ok_gives transaction_text FitsTransaction transaction_from transaction_laws c.args.bytes.now c.in-Ok.tx c.in-Ok.rest.now (λ i. omega (arith, c.type_inv.bytes i)) c.in-Ok.ensures).gives

pub returns-in-Ok-clause-exact : goal.returns-in-Ok-clause-exact
returns-in-Ok-clause-exact c = (ok_gives transaction_text FitsTransaction transaction_from transaction_laws c.args.bytes.now c.in-Ok.tx c.in-Ok.rest.now (λ i. omega (arith, c.type_inv.bytes i)) c.in-Ok.ensures).gives

pub returns-in-Err-clause-read : goal.returns-in-Err-clause-read
returns-in-Err-clause-read c = is_read transaction_text FitsTransaction TransactionByte transaction_from transaction_laws transaction_bytes c.args.bytes.now (Err (record { kind = c.in-Err.fault.kind; at = length c.args.bytes.now - length c.in-Err.fault.rest.now })) (λ i. omega (arith, c.type_inv.bytes i)) (err_gives transaction_text FitsTransaction transaction_from transaction_laws c.args.bytes.now c.in-Err.fault.kind c.in-Err.fault.rest.now (λ i. omega (arith, c.type_inv.bytes i)) c.in-Err.ensures).gives

pub returns-in-Err-clause-only : goal.returns-in-Err-clause-only
returns-in-Err-clause-only c = only_read transaction_text FitsTransaction transaction_from transaction_laws c.args.bytes.now (Err (record { kind = c.in-Err.fault.kind; at = length c.args.bytes.now - length c.in-Err.fault.rest.now })) (err_gives transaction_text FitsTransaction transaction_from transaction_laws c.args.bytes.now c.in-Err.fault.kind c.in-Err.fault.rest.now (λ i. omega (arith, c.type_inv.bytes i)) c.in-Err.ensures).gives

pub returns-in-Err-clause-exact : goal.returns-in-Err-clause-exact
returns-in-Err-clause-exact c = (err_gives transaction_text FitsTransaction transaction_from transaction_laws c.args.bytes.now c.in-Err.fault.kind c.in-Err.fault.rest.now (λ i. omega (arith, c.type_inv.bytes i)) c.in-Err.ensures).gives
