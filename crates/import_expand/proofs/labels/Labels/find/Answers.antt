use Rattle.std.proofs.Common.{sym, ap, ◌∙◌, get_or}
use Rattle.import_expand.proofs.LabelLemmas.{no_mark}
use Rattle.import_expand.proofs.labels.Labels.find.Goals as goal

pub returns-in-0 : goal.returns-in-0
returns-in-0 c none label e =
    let self = c.args.self.now in
    no_mark self.factor self.marks self.numbers.items c.args.number label self.are_marked (sym (ap (λ k. get_or self.marks k 0) c.mark_of.ensures.place) ∙ c.in-0.is) e
