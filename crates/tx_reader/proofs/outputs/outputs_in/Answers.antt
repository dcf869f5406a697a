use Rattle.block_grammar.specs.declared.kinds.TxKind.TheVariants.{NoOutput}
use Rattle.block_grammar.specs.Combinators.{nonzero_from}
use Rattle.block_grammar.specs.Reading.{size_from, output_from}
use Rattle.wire_read.proofs.ManyLaws.{is_listed}
use Rattle.tx_reader.proofs.outputs.outputs_in.Goals as goal

pub invariant_of-result : goal.invariant_of-result
invariant_of-result c = (is_listed (nonzero_from NoOutput size_from) output_from c.in_ok-count.count c.args.bytes.now c.in_ok-count.rest.now c.in_ok-after.after.now c.in_ok-count.ensures c.in_ok-after.ensures).some

pub returns : goal.returns
returns c = (is_listed (nonzero_from NoOutput size_from) output_from c.in_ok-count.count c.args.bytes.now c.in_ok-count.rest.now c.in_ok-after.after.now c.in_ok-count.ensures c.in_ok-after.ensures).listed
