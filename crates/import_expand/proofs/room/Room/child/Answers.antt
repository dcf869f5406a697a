use Rattle.std.proofs.Common.{refl}
use Rattle.std.proofs.lemmas.Result.{err_from_is_err_and}
use Rattle.import_expand.specs.Rooms.CountsAsked.{remembered}
use Rattle.import_expand.proofs.RoomLemmas.{later_both, node_after}
use Rattle.import_expand.proofs.room.Room.child.Goals as goal

pub returns-in-Some-clause-counted : goal.returns-in-Some-clause-counted
returns-in-Some-clause-counted g c ns node = remembered refl

pub returns-in_err-count_asked-in-None-clause-refused : goal.returns-in_err-count_asked-in-None-clause-refused
returns-in_err-count_asked-in-None-clause-refused g c =
    let p = err_from_is_err_and c.from_residual.result c.from_residual.ensures.1 in
    rw (p.1, p.2) (c.in_err-count_asked-in-None.ensures.refused (g.N.Names.served c.args.names.now) c.requires.sound)

pub new_child-requires : goal.new_child-requires
new_child-requires g c = record { sound = (c.in_ok-count_asked-in-None.ensures.later (g.N.Names.served c.args.names.now) c.requires.sound).sound }

pub returns-in_ok-at-in-None-clause-found : goal.returns-in_ok-at-in-None-clause-found
returns-in_ok-at-in-None-clause-found g c ns node =
    let live = g.N.Names.served c.args.names.now in
    c.in_ok-at-in-None.ensures.found ns (node_after live c.args.self.now c.count_asked.new.self c.args.of ns (c.in_ok-count_asked-in-None.ensures.later live c.requires.sound) node)

pub returns-in_ok-at-in-None-clause-later : goal.returns-in_ok-at-in-None-clause-later
returns-in_ok-at-in-None-clause-later g c =
    let live = g.N.Names.served c.args.names.now in
    later_both live c.args.self.now c.count_asked.new.self c.new_child.new.self (c.in_ok-count_asked-in-None.ensures.later live c.requires.sound) c.in_ok-at-in-None.ensures.later
