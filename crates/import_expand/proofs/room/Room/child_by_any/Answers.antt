use Rattle.import_expand.proofs.RoomLemmas.{NodeOf, child_any, child_by, child_new}
use Rattle.import_expand.proofs.room.Room.child_by_any.Goals as goal

pub returns-clause-found : goal.returns-clause-found
returns-clause-found g c ns node =
    let live = g.N.Names.served c.args.names.now in
    let a = c.args.self.now in
    let at = c.in_ok-at.at in
    let label = c.args.label.now in
    let lacks = c.requires.lacks in
    let there : NodeOf a c.args.of = record { of = lacks.of; is = lacks.is } in
    let any = child_any live a c.child_under.new.self c.args.of at label lacks (record { later = c.in_ok-at.ensures.later; node = c.in_ok-at.ensures.found lacks.of lacks.is }) in
    child_by live a c.keep_child.new.self c.args.of at label there ns node (child_new live a c.child_under.new.self c.keep_child.new.self c.args.of at label there any c.in_ok-keep_child.ensures.later)

pub returns-clause-later : goal.returns-clause-later
returns-clause-later g c =
    let live = g.N.Names.served c.args.names.now in
    let a = c.args.self.now in
    let at = c.in_ok-at.at in
    let label = c.args.label.now in
    let lacks = c.requires.lacks in
    let there : NodeOf a c.args.of = record { of = lacks.of; is = lacks.is } in
    let any = child_any live a c.child_under.new.self c.args.of at label lacks (record { later = c.in_ok-at.ensures.later; node = c.in_ok-at.ensures.found lacks.of lacks.is }) in
    (child_new live a c.child_under.new.self c.keep_child.new.self c.args.of at label there any c.in_ok-keep_child.ensures.later).later
