use Rattle.disk_model.specs.DiskSeen.{bytes_in}
use Rattle.index_commands.specs.Commands.{Origin}
use Rattle.index_commands.proofs.ReadingLemmas.{followed_none}
use Rattle.index_commands.proofs.areas.follow_area.Goals as goal

pub returns-clause-follows : goal.returns-clause-follows
returns-clause-follows g c = λ front behind.
    let first : Origin = record { front = front; index = c.args.first } in
    c.read_all.ensures.follows first (followed_none g.D.Disk.tells c.args.journal.limit first (bytes_in (g.D.Disk.seen c.args.disk.now) c.args.file) c.args.journal behind c.requires.area.within)
