use Rattle.bit_resolver.specs.Ends.{seen_below}
use Rattle.bit_resolver.proofs.PlaceLemmas.{own_is_there}
use Rattle.bit_resolver.proofs.place.Below.own_at.Goals as goal

pub unreachable-requires : goal.unreachable-requires
unreachable-requires c =
    own_is_there (seen_below c.args.self.now) c.args.left c.deref.result.now c.args.top.now c.in_ok-name.field-0 c.requires.name c.requires.top c.deref.ensures.value c.in-None.is c.in_ok-name.ensures
