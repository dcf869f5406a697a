use Rattle.std.proofs.Common.{◌≡◌, ◌-◌, ℕ, List, length, Some, ap, subst, ◌∙◌}
use Rattle.std.specs.Map.{lookup, KeepsOthers}
use Rattle.std.specs.Str.{bytes_eq}
use Rattle.chain_names.specs.declared.coin.Item.{Item}
use Rattle.chain_names.specs.Tables.{names_in}
use Rattle.states_below.specs.Views.{has_bytes}
use Rattle.states_below.proofs.OverLemmas.{popped}
use Rattle.states_below.proofs.names_below.NamesBelow.pop.Goals as goal

pub returns-clause-ok : goal.returns-clause-ok
returns-clause-ok c =
    let updates = c.in_ok-insert.ensures.updates in
    let old = c.args.self.now.left.entries in
    let new = c.insert.new.self.entries in
    let same = c.in_ok-key.ensures.items in
    let left = c.saturating_sub-left.result in
    popped (names_in c.args.self.now.under.now) old new c.args.name.now left
    (c.saturating_sub-left.ensures ∙ ap (λ (items : List Item). length items - 1) c.history-items.ensures)
    (subst (λ (n : List ℕ). lookup (has_bytes n) new ≡ Some left) same updates.1)
    (subst (λ (n : List ℕ). KeepsOthers (λ x y. bytes_eq x.items y.items) (has_bytes n) old new) same updates.3)
