use Rattle.std.proofs.Common.{sym}
use Rattle.block_grammar.specs.Reading.{counted_from}
use Rattle.wire_read.proofs.ManyLaws.{one_more}
use Rattle.tx_reader.proofs.witness.behind_items.Goals as goal

pub loop-preserved : goal.loop-preserved
loop-preserved c = one_more counted_from c.args.count c.loop.counter c.loop.rest.now c.in_ok-_item._item.now c.in_ok-_item.after.now _ c.loop-test.true (sym c.in_ok-_item.ensures) c.loop.invariant
