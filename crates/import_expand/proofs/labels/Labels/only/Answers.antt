use Rattle.std.proofs.Common.{◌∙◌, arith}
use Rattle.import_expand.proofs.ExpandLemmas.{get_same}
use Rattle.import_expand.proofs.LabelLemmas.{other_place}
use Rattle.import_expand.proofs.labels.Labels.only.Goals as goal

pub returns-then-at-len : goal.returns-then-at-len
returns-then-at-len c none label e =
    let self = c.args.self.now in
    other_place self.factor self.marks self.numbers.items c.args.number c.args.at label self.are_marked c.requires.mark c.requires.alone (λ w same. absurd (omega (arith, w, c.if-at-len.true, c.len.ensures))) e

pub returns-then-index-number : goal.returns-then-index-number
returns-then-index-number c none label e =
    let self = c.args.self.now in
    other_place self.factor self.marks self.numbers.items c.args.number c.args.at label self.are_marked c.requires.mark c.requires.alone
    (λ w same. c.if-index-number.true (c.index.ensures ∙ get_same self.numbers.items c.args.at c.index.result.now 0 w ∙ same)) e
