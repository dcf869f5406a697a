use Rattle.std.proofs.Common.{sym, ◌∙◌}
use Rattle.std.specs.Cmp.Lexicographic.{same_text}
use Rattle.import_expand.specs.Rooms.{objects_in}
use Rattle.import_expand.proofs.ExpandLemmas.{shows_by}
use Rattle.import_expand.proofs.RoomLemmas.{node_by, node_numbers, found_at}
use Rattle.import_expand.proofs.room.Room.is_node_of.Goals as goal

pub returns-in-Some : goal.returns-in-Some
returns-in-Some c same ns shown =
    let w = found_at c.args.self.now.nodes.items c.deref.result.now c.args.of c.in-Some.sources.now c.deref.ensures.value c.in-Some.ensures.lookup.0 c.in-Some.ensures.lookup.1 in
    node_by c.args.self.now c.args.of c.in-Some.sources.now ns (node_numbers c.args.self.now.nodes.items c.args.of c.in-Some.sources.now w.0 w.1)
    (shows_by (objects_in c.args.self.now) c.args.numbers.now c.in-Some.sources.now.numbers.items ns (sym (same_text c.as_slice.result.now c.args.numbers.now (sym same ∙ c.eq.ensures)) ∙ c.as_slice.ensures.value) shown)
