use Rattle.std.proofs.Common.{arith, sym, ap}
use Rattle.std.specs.Prelude.{Ok}
use Rattle.block_grammar.specs.Block.{Block}
use Rattle.block_grammar.proofs.BlockLaws.{block_takes}
use Rattle.block_reader.proofs.Clauses.{shorter, stopped, is_fault, only_block, fault_no_block}
use Rattle.block_reader.proofs.block.read_block.Goals as goal

pub fault_at-requires-clause-shorter : goal.fault_at-requires-clause-shorter
fault_at-requires-clause-shorter c = shorter c.args.bytes.now c.in-Err.stop.kind c.in-Err.stop.rest.now (λ i. omega (arith, c.type_inv.bytes i)) c.in-Err.ensures

pub returns-in-Ok-clause-read : goal.returns-in-Ok-clause-read
returns-in-Ok-clause-read c = block_takes c.args.bytes.now c.in-Ok.block (λ i. omega (arith, c.type_inv.bytes i)) (sym c.in-Ok.ensures)

pub returns-in-Ok-clause-only : goal.returns-in-Ok-clause-only
returns-in-Ok-clause-only c = λ b is. ap (λ (x : Block). Ok x) (only_block c.args.bytes.now c.in-Ok.block b c.in-Ok.ensures is)

pub returns-in-Ok-clause-exact : goal.returns-in-Ok-clause-exact
returns-in-Ok-clause-exact c = sym c.in-Ok.ensures

pub returns-in-Err-clause-read : goal.returns-in-Err-clause-read
returns-in-Err-clause-read c = is_fault c.args.bytes.now c.in-Err.stop.kind c.fault_at.result.kind c.fault_at.result.at c.in-Err.stop.rest.now (λ i. omega (arith, c.type_inv.bytes i)) c.in-Err.ensures c.fault_at.ensures.kind c.fault_at.ensures.at

pub returns-in-Err-clause-only : goal.returns-in-Err-clause-only
returns-in-Err-clause-only c = λ b is. absurd (fault_no_block c.args.bytes.now c.in-Err.stop.kind c.in-Err.stop.rest.now b c.in-Err.ensures is)

pub returns-in-Err-clause-exact : goal.returns-in-Err-clause-exact
returns-in-Err-clause-exact c = stopped c.args.bytes.now c.in-Err.stop.kind c.fault_at.result.kind c.fault_at.result.at c.in-Err.stop.rest.now (λ i. omega (arith, c.type_inv.bytes i)) c.in-Err.ensures c.fault_at.ensures.kind c.fault_at.ensures.at
