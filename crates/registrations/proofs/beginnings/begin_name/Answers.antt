use Rattle.std.proofs.Common.{ℕ, Bool, true, ◌++◌, List, map, reverse, ap, ◌∙◌}
use Rattle.std.specs.Str.{bytes_eq}
use Rattle.chain_names.specs.Points.{changed}
use Rattle.chain_names.specs.Tables.{names_in}
use Rattle.chain_names.proofs.Changed.{bytes_eq-at_changed}
use Rattle.registrations.specs.Filling.{begun}
use Rattle.registrations.proofs.BeginningLemmas.{begun_whole}
use Rattle.registrations.proofs.NameLemmas.{places_by_keys, listed_already}
use Rattle.registrations.proofs.beginnings.begin_name.Goals as goal

pub put_begun-requires-clause-placed : goal.put_begun-requires-clause-placed
put_begun-requires-clause-placed g c = bytes_eq-at_changed _ _ c.args.name.now true c.in_ok-place.ensures.ok

pub returns-clause-names : goal.returns-clause-names
returns-clause-names g c =
    begun_whole (names_in c.args.names.now) (names_in c.take_items.new.names) (names_in c.put_begun.new.names) c.args.name.now c.in_ok-items.items.items
    (record { all = c.in_ok-items.ensures.items; none = c.in_ok-items.ensures.names })
    (c.put_begun.ensures.names ∙ ap (λ names. changed bytes_eq names c.args.name.now (names c.args.name.now ++ map begun (reverse c.in_ok-items.items.items))) c.place.ensures.names)

pub returns-clause-list : goal.returns-clause-list
returns-clause-list g c =
    let placed = ap (λ (places : List ℕ → Bool). places c.args.name.now) (places_by_keys c.args.names.now c.take_items.new.names c.in_ok-items.ensures.list) ∙ c.requires in
    c.put_begun.ensures.list ∙ c.in_ok-place.ensures.list ∙ listed_already c.take_items.new.names c.args.name.now placed ∙ c.in_ok-items.ensures.list
