use Rattle.std.proofs.Common.{sym}
use Rattle.block_grammar.specs.Reading.{input_from}
use Rattle.tx_reader.specs.Fields.{seen_input}
use Rattle.wire_read.proofs.ManyLaws.{one_more}
use Rattle.tx_reader.proofs.inputs.behind_inputs.Goals as goal

pub loop-preserved : goal.loop-preserved
loop-preserved c = one_more input_from c.args.count c.loop.counter c.loop.rest.now (seen_input c.in_ok-_input._input) c.in_ok-_input.after.now _ c.loop-test.true (sym c.in_ok-_input.ensures) c.loop.invariant
