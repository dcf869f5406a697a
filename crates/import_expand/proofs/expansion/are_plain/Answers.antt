use Rattle.std.proofs.Common.{arith, refl, get_or}
use Rattle.import_expand.specs.Sources.{EndsNoWay}
use Rattle.import_expand.specs.Books.{objects}
use Rattle.import_expand.proofs.AbsentLemmas.{one_more, all_plain}
use Rattle.import_expand.proofs.expansion.are_plain.Goals as goal

pub loop-source-preserved : goal.loop-source-preserved
loop-source-preserved c =
    one_more EndsNoWay (objects c.args.book.now) c.args.of.now c.loop-source.source-index (get_or c.args.of.now c.loop-source.source-index 0) refl (c.may_end_way.ensures c.if-may_end_way.false) c.loop-source.invariant

pub returns : goal.returns
returns c ns shown told = all_plain (objects c.args.book.now) c.args.of.now c.loop-source.source-index ns (omega arith) c.loop-source.invariant shown
