use Rattle.std.proofs.Common.{ℕ, List, sym, subst}
use Rattle.std.specs.List.{AllByRecursion}
use Rattle.chain_names.specs.declared.coin.Item.{Item}
use Rattle.chain_names.specs.State.{FitsItem}
use Rattle.table_trials.proofs.ImageLemmas.{short_more}
use Rattle.table_trials.proofs.images.push.Goals as goal

pub returns : goal.returns
returns g c short =
    short_more c.place.new.self c.push.new.self c.args.name.now c.args.item (record { name_length = c.requires.name; value_length = c.requires.value }) c.push.ensures.names
    (subst (λ (names : List ℕ → List Item). (name : List ℕ) → AllByRecursion (FitsItem name) (names name)) (sym c.in_ok-place.ensures.names) short)
