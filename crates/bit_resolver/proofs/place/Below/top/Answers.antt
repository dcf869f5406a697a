use Rattle.bit_resolver.specs.Ends.{seen_below}
use Rattle.bit_resolver.proofs.PlaceLemmas.{top_wire}
use Rattle.bit_resolver.proofs.place.Below.top.Goals as goal

pub unreachable-requires : goal.unreachable-requires
unreachable-requires c = c.in-None.ensures (top_wire (seen_below c.args.self.now) _ c.as_slice-x.result.now c.requires c.as_slice-x.ensures c.top_wire-wire.ensures)
