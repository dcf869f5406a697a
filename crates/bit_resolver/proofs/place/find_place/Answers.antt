use Rattle.bit_resolver.proofs.PlaceLemmas.{place_named}
use Rattle.bit_resolver.proofs.place.find_place.Goals as goal

pub returns-clause-named : goal.returns-clause-named
returns-clause-named c = place_named c.args.wire.now _ c.requires c.in_ok-place.ensures
