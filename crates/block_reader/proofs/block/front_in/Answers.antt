use Rattle.std.proofs.Common.{List, length, arith, sym, ap, ◌∙◌}
use Rattle.std.specs.Prelude.{Ok}
use Rattle.block_grammar.specs.Block.{count_outputs}
use Rattle.block_grammar.specs.Transaction.{Transaction}
use Rattle.block_reader.proofs.Loops.{is_front}
use Rattle.block_reader.proofs.block.front_in.Goals as goal

pub overflow_cast-count : goal.overflow_cast-count
overflow_cast-count c = omega (arith, c.requires, (is_front c.args.bytes.now c.in_ok-header.rest.now c.in_ok-count.rest.now c.in_ok-after.after.now c.in_ok-header.header c.in_ok-count.count (λ i. omega (arith, c.type_inv.bytes i)) c.in_ok-header.ensures c.in_ok-count.ensures c.in_ok-after.ensures).below)

pub invariant_of-txs : goal.invariant_of-txs
invariant_of-txs c = (is_front c.args.bytes.now c.in_ok-header.rest.now c.in_ok-count.rest.now c.in_ok-after.after.now c.in_ok-header.header c.in_ok-count.count (λ i. omega (arith, c.type_inv.bytes i)) c.in_ok-header.ensures c.in_ok-count.ensures c.in_ok-after.ensures).found

pub invariant_of-block : goal.invariant_of-block
invariant_of-block c = let f = (is_front c.args.bytes.now c.in_ok-header.rest.now c.in_ok-count.rest.now c.in_ok-after.after.now c.in_ok-header.header c.in_ok-count.count (λ i. omega (arith, c.type_inv.bytes i)) c.in_ok-header.ensures c.in_ok-count.ensures c.in_ok-after.ensures) in (sym (ap length f.values ∙ f.len), omega (arith, ap length f.values, f.some), omega (arith, ap count_outputs f.values, f.few_outputs, c.requires))

pub returns : goal.returns
returns c = let f = (is_front c.args.bytes.now c.in_ok-header.rest.now c.in_ok-count.rest.now c.in_ok-after.after.now c.in_ok-header.header c.in_ok-count.count (λ i. omega (arith, c.type_inv.bytes i)) c.in_ok-header.ensures c.in_ok-count.ensures c.in_ok-after.ensures) in ap (λ (ts : List Transaction). Ok (record { header = c.in_ok-header.header; transactions = ts }, c.in_ok-after.after.now)) f.values ∙ sym f.whole
