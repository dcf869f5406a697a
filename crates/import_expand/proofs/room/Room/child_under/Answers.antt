use Rattle.std.proofs.lemmas.Result.{err_from_is_err_and}
use Rattle.std.proofs.Common.{refl, sym}
use Rattle.import_expand.specs.Sources.{child_of}
use Rattle.import_expand.specs.Rooms.{objects_in, numbers_of}
use Rattle.import_expand.specs.declared.room.Room.{Room}
use Rattle.import_expand.proofs.ExpandLemmas.{shows_by}
use Rattle.import_expand.proofs.RoomLemmas.{book_later, child_new, placed, node_exists, node_numbers, node_shown, found_at, given_up}
use Rattle.import_expand.proofs.room.Room.child_under.Goals as goal

pub returns-in_ok-keep_child-in-None-clause-found : goal.returns-in_ok-keep_child-in-None-clause-found
returns-in_ok-keep_child-in-None-clause-found g c ns node =
    let live = g.N.Names.served c.args.names.now in
    let a = c.args.self.now in
    let b : Room = record a { book = c.child.new.book } in
    let s = c.in-Some-get.sources.now in
    let w = found_at a.nodes.items c.deref.result.now c.args.of s c.deref.ensures.value c.in-Some-get.ensures.lookup.0 c.in-Some-get.ensures.lookup.1 in
    let shown = c.in_ok-found-in-None.ensures.found ns (shows_by (objects_in a) s.numbers.items c.as_slice.result.now ns (sym c.as_slice.ensures.value) (node_shown a c.args.of (numbers_of s) ns (node_numbers a.nodes.items c.args.of s w.0 w.1) node)) in
    let new = placed live a b c.put_under.new.self c.in_ok-at-in-None.at (child_of live ns c.args.label.now) (book_later live a b c.in_ok-found-in-None.ensures.later refl refl refl c.requires.sound)
    (c.in_ok-at-in-None.ensures.keeps (child_of live ns c.args.label.now) shown) (c.in_ok-at-in-None.ensures.at (child_of live ns c.args.label.now) shown) in
    (child_new live a c.put_under.new.self c.keep_child.new.self c.args.of c.in_ok-at-in-None.at c.args.label.now (record { of = ns; is = node }) new c.in_ok-keep_child-in-None.ensures.later).node

pub returns-in_ok-keep_child-in-None-clause-later : goal.returns-in_ok-keep_child-in-None-clause-later
returns-in_ok-keep_child-in-None-clause-later g c =
    let live = g.N.Names.served c.args.names.now in
    let a = c.args.self.now in
    let b : Room = record a { book = c.child.new.book } in
    let s = c.in-Some-get.sources.now in
    let w = found_at a.nodes.items c.deref.result.now c.args.of s c.deref.ensures.value c.in-Some-get.ensures.lookup.0 c.in-Some-get.ensures.lookup.1 in
    let e = node_exists live a c.args.of s c.requires.sound w.0 w.1 in
    let shown = c.in_ok-found-in-None.ensures.found e.of (shows_by (objects_in a) s.numbers.items c.as_slice.result.now e.of (sym c.as_slice.ensures.value) (node_shown a c.args.of (numbers_of s) e.of (node_numbers a.nodes.items c.args.of s w.0 w.1) e.is)) in
    let new = placed live a b c.put_under.new.self c.in_ok-at-in-None.at (child_of live e.of c.args.label.now) (book_later live a b c.in_ok-found-in-None.ensures.later refl refl refl c.requires.sound)
    (c.in_ok-at-in-None.ensures.keeps (child_of live e.of c.args.label.now) shown) (c.in_ok-at-in-None.ensures.at (child_of live e.of c.args.label.now) shown) in
    (child_new live a c.put_under.new.self c.keep_child.new.self c.args.of c.in_ok-at-in-None.at c.args.label.now e new c.in_ok-keep_child-in-None.ensures.later).later

pub returns-in_err-found-in-None-clause-refused : goal.returns-in_err-found-in-None-clause-refused
returns-in_err-found-in-None-clause-refused g c =
    let p = err_from_is_err_and c.from_residual.result c.from_residual.ensures.1 in
    rw (p.1, p.2) (given_up (g.N.Names.served c.args.names.now) _ c.in_err-found-in-None.field-0.0 c.in_err-found-in-None.ensures.refused)
