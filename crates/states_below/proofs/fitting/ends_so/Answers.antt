use Rattle.std.proofs.Common.{sym, ap, ◌∙◌}
use Rattle.states_below.specs.Tests.{same_entry}
use Rattle.states_below.proofs.TestLemmas.{ends-then, ends-else}
use Rattle.states_below.proofs.fitting.ends_so.Goals as goal

pub returns-then-is_made_item : goal.returns-then-is_made_item
returns-then-is_made_item c =
    c.same_entry.ensures ∙ ap (λ x. same_entry x c.args.before.now) c.entry_of.ensures
    ∙ ends-then c.args.tip c.args.registered c.args.made.now c.args.before.now c.args.items.now c.in-Some.front.now c.in-Some.last.now c.in-Some.ensures.cases.0
    (sym c.is_made_item.ensures ∙ c.if-is_made_item.true)

pub returns-else-is_made_item : goal.returns-else-is_made_item
returns-else-is_made_item c =
    c.if-is_made_item.false
    ∙ ends-else c.args.tip c.args.registered c.args.made.now c.args.before.now c.args.items.now c.in-Some.front.now c.in-Some.last.now c.in-Some.ensures.cases.0
    (sym c.is_made_item.ensures ∙ c.if-is_made_item.false)
