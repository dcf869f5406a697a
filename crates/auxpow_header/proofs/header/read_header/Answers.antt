use Rattle.std.proofs.Common.{arith, length, ◌-◌}
use Rattle.std.specs.Prelude.{Ok, Err}
use Rattle.block_grammar.specs.Header.{header_text, FitsHeader}
use Rattle.block_grammar.specs.Reading.{header_from}
use Rattle.block_grammar.proofs.HeaderLaws.{header_laws}
use Rattle.block_grammar.specs.FaultRows.{HeaderByte}
use Rattle.block_grammar.proofs.HeaderRowLaws.{header_bytes}
use Rattle.wire_read.proofs.FrontLaws.{ok_gives, err_gives, is_read, only_read}
use Rattle.auxpow_header.proofs.header.read_header.Goals as goal

pub overflow_sub-result : goal.overflow_sub-result
overflow_sub-result c = (ok_gives header_text FitsHeader header_from header_laws c.args.bytes.now c.in-Ok.header c.in-Ok.rest.now (λ i. omega (arith, c.type_inv.bytes i)) c.in-Ok.ensures).shorter

pub overflow_sub-result-in-Err : goal.overflow_sub-result-in-Err
overflow_sub-result-in-Err c = (err_gives header_text FitsHeader header_from header_laws c.args.bytes.now c.in-Err.fault.kind c.in-Err.fault.rest.now (λ i. omega (arith, c.type_inv.bytes i)) c.in-Err.ensures).shorter

pub returns-in-Ok-clause-read : goal.returns-in-Ok-clause-read
returns-in-Ok-clause-read c = is_read header_text FitsHeader HeaderByte header_from header_laws header_bytes c.args.bytes.now (Ok (c.in-Ok.header, length c.args.bytes.now - length c.in-Ok.rest.now)) (λ i. omega (arith, c.type_inv.bytes i)) (ok_gives header_text FitsHeader header_from header_laws c.args.bytes.now c.in-Ok.header c.in-Ok.rest.now (λ i. omega (arith, c.type_inv.bytes i)) c.in-Ok.ensures).gives

pub returns-in-Ok-clause-only : goal.returns-in-Ok-clause-only
returns-in-Ok-clause-only c = only_read header_text FitsHeader header_from header_laws c.args.bytes.now (Ok (c.in-Ok.header, length c.args.bytes.now - length c.in-Ok.rest.now)) (ok_gives header_text FitsHeader header_from header_laws c.args.bytes.now c.in-Ok.header c.in-Ok.rest.now (λ i. omega (arith, c.type_inv.bytes i)) c.in-Ok.ensures).gives

pub returns-in-Ok-clause-exact : goal.returns-in-Ok-clause-exact
returns-in-Ok-clause-exact c = (ok_gives header_text FitsHeader header_from header_laws c.args.bytes.now c.in-Ok.header c.in-Ok.rest.now (λ i. omega (arith, c.type_inv.bytes i)) c.in-Ok.ensures).gives

pub returns-in-Err-clause-read : goal.returns-in-Err-clause-read
returns-in-Err-clause-read c = is_read header_text FitsHeader HeaderByte header_from header_laws header_bytes c.args.bytes.now (Err (record { kind = c.in-Err.fault.kind; at = length c.args.bytes.now - length c.in-Err.fault.rest.now })) (λ i. omega (arith, c.type_inv.bytes i)) (err_gives header_text FitsHeader header_from header_laws c.args.bytes.now c.in-Err.fault.kind c.in-Err.fault.rest.now (λ i. omega (arith, c.type_inv.bytes i)) c.in-Err.ensures).gives

pub returns-in-Err-clause-only : goal.returns-in-Err-clause-only
returns-in-Err-clause-only c = only_read header_text FitsHeader header_from header_laws c.args.bytes.now (Err (record { kind = c.in-Err.fault.kind; at = length c.args.bytes.now - length c.in-Err.fault.rest.now })) (err_gives header_text FitsHeader header_from header_laws c.args.bytes.now c.in-Err.fault.kind c.in-Err.fault.rest.now (λ i. omega (arith, c.type_inv.bytes i)) c.in-Err.ensures).gives

pub returns-in-Err-clause-exact : goal.returns-in-Err-clause-exact
returns-in-Err-clause-exact c = (err_gives header_text FitsHeader header_from header_laws c.args.bytes.now c.in-Err.fault.kind c.in-Err.fault.rest.now (λ i. omega (arith, c.type_inv.bytes i)) c.in-Err.ensures).gives
