use Rattle.std.proofs.Common.{sym}
use Rattle.block_grammar.specs.Reading.{output_from}
use Rattle.tx_reader.specs.Fields.{seen_output}
use Rattle.wire_read.proofs.ManyLaws.{one_more}
use Rattle.tx_reader.proofs.outputs.behind_outputs.Goals as goal

pub loop-preserved : goal.loop-preserved
loop-preserved c = one_more output_from c.args.count c.loop.counter c.loop.rest.now (seen_output c.in_ok-_output._output) c.in_ok-_output.after.now _ c.loop-test.true (sym c.in_ok-_output.ensures) c.loop.invariant
