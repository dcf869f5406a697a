use Rattle.import_expand.specs.Rooms.{objects_in}
use Rattle.import_expand.proofs.ExpandLemmas.{shows_length}
use Rattle.import_expand.proofs.room.Room.len.Goals as goal

pub returns : goal.returns
returns c ns node = shows_length (objects_in c.args.self.now) c.sources.result.now ns (c.sources.ensures ns node)
