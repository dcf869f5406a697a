use Rattle.import_expand.proofs.RoomLemmas.{node_plain, found_at}
use Rattle.import_expand.proofs.room.Room.is_plain.Goals as goal

pub returns-in-Some : goal.returns-in-Some
returns-in-Some c live ns sound node plain =
    let w = found_at c.args.self.now.nodes.items c.deref.result.now c.args.of c.in-Some.sources.now c.deref.ensures.value c.in-Some.ensures.lookup.0 c.in-Some.ensures.lookup.1 in
    node_plain live c.args.self.now c.args.of c.in-Some.sources.now ns sound w.0 w.1 node plain
