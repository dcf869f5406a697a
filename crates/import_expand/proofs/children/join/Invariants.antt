use Rattle.std.proofs.Common.{◌≤◌, ◌++◌, List, take, length}
use Rattle.std.specs.List.{flat_map}
use Rattle.serde_json.specs.Data.{Members}
use Rattle.import_expand.specs.Books.{objects, Shows, Later}
use Rattle.import_expand.specs.Sources.{under}
use Rattle.import_expand.proofs.children.join.Given as goal

abbrev pub invariant-loop-source : goal.invariant-loop-source
invariant-loop-source g l = (length l.found.items ≤ 256) × Later (g.N.Names.served l.names) l.initial.book l.book
    × ((ns ms : List Members) → Shows (objects l.initial.book) l.of ns → Shows (objects l.initial.book) l.initial.found.items ms → Shows (objects l.book) l.found.items (take 256 (ms ++ flat_map (under (g.N.Names.served l.names) l.label) (take l.source-index ns))))
