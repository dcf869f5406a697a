use Rattle.std.proofs.Common.{take, ap, ◌∙◌}
use Rattle.chain_names.specs.Tables.{names_in}
use Rattle.states_below.specs.Views.{items_over}
use Rattle.states_below.proofs.names_below.NamesBelow.history.Goals as goal

pub returns-in-Some : goal.returns-in-Some
returns-in-Some c =
    c.front_of.ensures ∙ ap (take c.in-Some.count.now) c.items_at-items.ensures
    ∙ ap (items_over (names_in c.args.self.now.under.now c.args.name.now)) c.in-Some.ensures.value

pub returns-in-None : goal.returns-in-None
returns-in-None c =
    c.items_at-items.ensures ∙ ap (items_over (names_in c.args.self.now.under.now c.args.name.now)) c.in-None.ensures.value
