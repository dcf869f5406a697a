use Rattle.block_grammar.specs.declared.kinds.TxKind.TheVariants.{NoInput}
use Rattle.block_grammar.specs.Combinators.{nonzero_from}
use Rattle.block_grammar.specs.Reading.{size_from, input_from}
use Rattle.wire_read.proofs.ManyLaws.{is_listed}
use Rattle.tx_reader.proofs.inputs.inputs_in.Goals as goal

pub invariant_of-result : goal.invariant_of-result
invariant_of-result c = (is_listed (nonzero_from NoInput size_from) input_from c.in_ok-count.count c.args.bytes.now c.in_ok-count.rest.now c.in_ok-after.after.now c.in_ok-count.ensures c.in_ok-after.ensures).some

pub returns : goal.returns
returns c = (is_listed (nonzero_from NoInput size_from) input_from c.in_ok-count.count c.args.bytes.now c.in_ok-count.rest.now c.in_ok-after.after.now c.in_ok-count.ensures c.in_ok-after.ensures).listed
