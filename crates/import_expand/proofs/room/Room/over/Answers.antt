use Rattle.import_expand.proofs.RoomLemmas.{empty_sound}
use Rattle.import_expand.proofs.room.Room.over.Goals as goal

pub returns-clause-sound : goal.returns-clause-sound
returns-clause-sound c live = empty_sound live _ (c.new.ensures.sound live) c.new-2.ensures.items c.new-3.ensures.items c.new-4.ensures.items
