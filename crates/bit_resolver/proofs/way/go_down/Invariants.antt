use Rattle.std.proofs.Common.{◌≤◌, drop, length}
use Rattle.serde_json.specs.Data.{Members}
use Rattle.import_expand.specs.Sources.{node}
use Rattle.import_expand.specs.Books.{IsAt}
use Rattle.import_expand.specs.Rooms.{objects_in, held, IsNode, IsSound}
use Rattle.bit_resolver.specs.Nodes.{node_at}
use Rattle.bit_resolver.specs.Ends.{seen_below}
use Rattle.bit_resolver.proofs.WayLemmas.{OnWay}
use Rattle.bit_resolver.proofs.way.go_down.Given as goal

abbrev pub invariant-loop-left : goal.invariant-loop-left
invariant-loop-left g l = let live = g.N.Names.served l.names in let b = seen_below l.name in
    IsSound live l.room × (l.left ≤ length b.path)
    × ((o : Members) → IsAt (objects_in l.fn.room) l.at o → OnWay live o b l.left (node_at live o b (drop l.left b.path)) × IsNode l.room l.of (node live o (drop l.left b.path)))
    × (held l.fn.room ≤ held l.room)

abbrev pub decreases-loop-left : goal.decreases-loop-left
decreases-loop-left g l = l.left
