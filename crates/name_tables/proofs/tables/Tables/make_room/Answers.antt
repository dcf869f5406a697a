use Rattle.name_tables.proofs.RoomLemmas.{held-then}
use Rattle.name_tables.proofs.tables.Tables.make_room.Goals as goal

pub returns-in-Err-clause-err : goal.returns-in-Err-clause-err
returns-in-Err-clause-err g c =
    (held-then c.args.self.now c.place_all.new.self c.clear.new.self c.in-Err.ensures.same c.clear.ensures.same, c.clear.ensures.filled c.in-Err.ensures.filled)
