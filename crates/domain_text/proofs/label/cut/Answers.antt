use Rattle.std.proofs.Common.{take_all}
use Rattle.std.proofs.lemmas.List.{take_rest}
use Rattle.std.proofs.lemmas.List.Splits.{slice_split_none}
use Rattle.domain_text.proofs.Cuts.{slice_split-read, none_more}
use Rattle.domain_text.proofs.label.cut.Goals as goal

pub loop-i-preserved : goal.loop-i-preserved
loop-i-preserved c = none_more c.args.at c.loop-i.i c.args.text.now c.loop-i-test.true c.if-byte-at.false c.loop-i.invariant

pub returns-then-byte-at-clause-split : goal.returns-then-byte-at-clause-split
returns-then-byte-at-clause-split c = rw take_rest (slice_split-read c.args.at c.loop-i.i c.args.text.now c.loop-i-test.true c.if-byte-at.true c.loop-i.invariant)

pub returns : goal.returns
returns c = record { split = slice_split_none _ _ (rw (take_all _ _ c.loop-i-test.false) at c.loop-i.invariant); shorter = tt }
