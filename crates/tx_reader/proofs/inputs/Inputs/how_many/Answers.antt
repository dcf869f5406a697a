use Rattle.std.proofs.Common.{sym}
use Rattle.block_grammar.specs.Reading.{input_from}
use Rattle.wire_read.proofs.ManyLaws.{values_count}
use Rattle.tx_reader.proofs.inputs.Inputs.how_many.Goals as goal

pub returns : goal.returns
returns c = rw (← c.self.view_is) (sym (values_count input_from c.self.inside.count c.self.inside.bytes.now c.self.invariant))
