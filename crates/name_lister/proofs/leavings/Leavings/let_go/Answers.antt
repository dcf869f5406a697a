use Rattle.std.proofs.Common.{sym, ◌∙◌}
use Rattle.name_lister.specs.Leavings.{parts_of}
use Rattle.name_lister.proofs.LeavingLemmas.{last_goes, last_shrinks, none_left, some_left}
use Rattle.name_lister.proofs.leavings.Leavings.let_go.Goals as goal

pub returns-then-let_go : goal.returns-then-let_go
returns-then-let_go c =
    last_goes c.args.self.now c.pop.new.self.items c.in-Some.leaving (sym c.self.view_is ∙ c.in-Some.ensures.items)
    (none_left (parts_of c.in-Some.leaving) (parts_of c.let_go.new.self) c.let_go.result c.let_go.ensures.count c.let_go.ensures.done c.if-let_go.true)

pub returns-else-let_go : goal.returns-else-let_go
returns-else-let_go c =
    last_shrinks c.args.self.now c.pop.new.self.items c.in-Some.leaving (sym c.self.view_is ∙ c.in-Some.ensures.items) c.let_go.new.self c.put.new.kept.items
    (some_left (parts_of c.in-Some.leaving) (parts_of c.let_go.new.self) c.let_go.result c.let_go.ensures.count c.let_go.ensures.done c.if-let_go.false)
    c.let_go.ensures.count c.put.ensures.items
