use Rattle.std.proofs.Common.{sym, ap, subst, ◌∙◌}
use Rattle.state_image.specs.Answers.{IsImageAnswer}
use Rattle.state_image.specs.Loading.{Loading, loading_of, HasRead, fault_at}
use Rattle.state_image.proofs.LoadLemmas.{no_fault_whole, fault_answers, read_whole}
use Rattle.state_image.proofs.loader.Loader.finish.Goals as goal

pub settle-requires : goal.settle-requires
settle-requires c =
    let inside = c.self.inside in
    let l : Loading = loading_of inside.reading inside.pending inside.fed inside.total inside.stop in
    let whole = no_fault_whole l (c.in-None.ensures ∙ ap fault_at (sym c.self.view_is)) in
    let read = c.self.invariant.reads whole.0 in
    (read.0, read_whole read.0 l read.1 c.self.invariant whole.1)

pub returns-in-Some-clause-whole : goal.returns-in-Some-clause-whole
returns-in-Some-clause-whole c = λ text has. subst (IsImageAnswer text) (sym c.give_up.ensures) (fault_answers text c.args.self has c.in-Some.fault c.in-Some.ensures)

pub returns-clause-whole : goal.returns-clause-whole
returns-clause-whole c = λ text has.
    let inside = c.self.inside in
    let l : Loading = loading_of inside.reading inside.pending inside.fed inside.total inside.stop in
    let whole = no_fault_whole l (c.in-None.ensures ∙ ap fault_at (sym c.self.view_is)) in
    c.settle.ensures text (read_whole text l (subst (HasRead text) (sym c.self.view_is) has) c.self.invariant whole.1)
