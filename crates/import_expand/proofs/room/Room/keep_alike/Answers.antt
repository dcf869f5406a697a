use Rattle.std.proofs.Common.{refl}
use Rattle.import_expand.proofs.BookLemmas.{keeps_same}
use Rattle.import_expand.proofs.RoomLemmas.{book_keeps}
use Rattle.import_expand.proofs.room.Room.keep_alike.Goals as goal

pub returns-in-Some-clause-keeps : goal.returns-in-Some-clause-keeps
returns-in-Some-clause-keeps c = book_keeps c.args.self.now _ (keeps_same c.args.self.now.book) refl refl refl

pub returns-in_default-clause-keeps : goal.returns-in_default-clause-keeps
returns-in_default-clause-keeps c = book_keeps c.args.self.now _ (keeps_same c.args.self.now.book) refl refl refl
