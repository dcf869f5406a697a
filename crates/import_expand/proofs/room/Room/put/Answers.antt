use Rattle.std.proofs.Common.{refl, sym}
use Rattle.import_expand.specs.Rooms.{objects_in}
use Rattle.import_expand.proofs.ExpandLemmas.{shows_by}
use Rattle.import_expand.proofs.RoomLemmas.{put_keeps}
use Rattle.import_expand.proofs.room.Room.put.Goals as goal

pub returns-clause-keeps : goal.returns-clause-keeps
returns-clause-keeps c ns shown = put_keeps c.args.self.now _ _ c.in_ok-push.ensures.items refl refl refl ns shown (c.are_plain-plain.ensures ns (shows_by (objects_in c.args.self.now) c.args.numbers.items c.as_slice.result.now ns (sym c.as_slice.ensures.value) shown))
