use Rattle.std.proofs.Common.{arith}
use Rattle.import_expand.proofs.LabelLemmas.{above_at, absent_at}
use Rattle.import_expand.proofs.labels.Labels.search.Goals as goal

pub returns-then-at-len : goal.returns-then-at-len
returns-then-at-len c none label e =
    absent_at c.as_slice.result.now c.args.self.now.numbers.items c.args.number c.lower-at.result label c.as_slice.ensures.value e c.args.self.now.rise c.lower-at.ensures.low (λ w. absurd (omega (arith, w, c.if-at-len.true, c.len.ensures)))

pub returns-then-index-number : goal.returns-then-index-number
returns-then-index-number c none label e =
    let numbers = c.args.self.now.numbers.items in
    absent_at c.as_slice.result.now numbers c.args.number c.lower-at.result label c.as_slice.ensures.value e c.args.self.now.rise c.lower-at.ensures.low
    (above_at c.as_slice.result.now numbers c.args.number c.lower-at.result c.index.result.now c.as_slice.ensures.value c.lower-at.ensures.high c.index.ensures c.if-index-number.true)
