use Rattle.std.proofs.Common.{List, take}
use Rattle.std.specs.List.{flat_map}
use Rattle.serde_json.specs.Data.{Members}
use Rattle.import_expand.specs.Sources.{under}
use Rattle.import_expand.specs.Books.{objects, Shows, Later}
use Rattle.import_expand.specs.Joinings.{IsJoined}
use Rattle.import_expand.proofs.joining.join_many.Given as goal

abbrev pub invariant-loop-source : goal.invariant-loop-source
invariant-loop-source g l = Later (g.N.Names.served l.names) l.initial.book l.book
    × ((ns : List Members) → Shows (objects l.initial.book) l.of ns → IsJoined (g.N.Names.served l.names) (objects l.book) l.label l.joining (take 256 (flat_map (under (g.N.Names.served l.names) l.label) (take l.source-index ns))))
