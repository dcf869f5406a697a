use Rattle.std.proofs.Common.{arith, ◌∙◌}
use Rattle.std.proofs.lemmas.List.{length-set}
use Rattle.import_expand.proofs.LabelLemmas.{marks_more}
use Rattle.import_expand.proofs.labels.marks_of.Goals as goal

pub loop-at-preserved : goal.loop-at-preserved
loop-at-preserved c =
    let l = c.loop-at in record {
      size = length-set l.marks c.mark_of-mark.result c.next_mark.result ∙ l.invariant.size;
      marked = marks_more c.args.factor l.marks c.args.numbers.now l.at c.mark_of-mark.result c.next_mark.result (omega (arith, l.invariant.size, c.mark_of-mark.ensures.within)) c.mark_of-mark.ensures.place c.next_mark.ensures.next c.next_mark.ensures.still l.invariant.marked;
    }
