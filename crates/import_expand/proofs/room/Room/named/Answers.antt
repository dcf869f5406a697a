use Rattle.std.proofs.lemmas.Result.{err_from_is_err_and}
use Rattle.std.proofs.Common.{refl}
use Rattle.import_expand.proofs.RoomLemmas.{book_later, given_up}
use Rattle.import_expand.proofs.room.Room.named.Goals as goal

pub returns-clause-later : goal.returns-clause-later
returns-clause-later g c = book_later (g.N.Names.served c.args.names.now) c.args.self.now _ c.in_ok-found.ensures.later refl refl refl c.requires.sound

pub returns-in_err-found-clause-refused : goal.returns-in_err-found-clause-refused
returns-in_err-found-clause-refused g c =
    let p = err_from_is_err_and c.from_residual.result c.from_residual.ensures.1 in
    rw (p.1, p.2) (given_up (g.N.Names.served c.args.names.now) _ c.in_err-found.field-0.0 c.in_err-found.ensures.refused)
