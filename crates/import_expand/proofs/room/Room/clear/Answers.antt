use Rattle.import_expand.proofs.RoomLemmas.{empty_sound}
use Rattle.import_expand.proofs.room.Room.clear.Goals as goal

pub returns-clause-sound : goal.returns-clause-sound
returns-clause-sound c live = empty_sound live _ (c.clear.ensures.sound live) c.clear-2.ensures.items c.clear-3.ensures.items c.clear-4.ensures.items
