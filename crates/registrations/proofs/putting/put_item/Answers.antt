use Rattle.std.proofs.Common.{ap, ◌∙◌}
use Rattle.chain_names.specs.Coins.{with_value}
use Rattle.registrations.proofs.PlaceLemmas.{one_filled}
use Rattle.registrations.proofs.putting.put_item.Goals as goal

pub returns-clause-names : goal.returns-clause-names
returns-clause-names g c = c.push.ensures.names ∙ ap (λ names. with_value names c.args.name.now c.args.item) c.place.ensures.names

pub returns-clause-places : goal.returns-clause-places
returns-clause-places g c =
    one_filled c.args.names.now c.push.new.self c.args.name.now c.args.item
    (c.push.ensures.names ∙ ap (λ names. with_value names c.args.name.now c.args.item) c.place.ensures.names) (c.push.ensures.places ∙ c.in_ok-place.ensures.ok)
