use Rattle.std.proofs.Common.{ap, length, refl, sym, arith}
use Rattle.std.proofs.lemmas.Result.{IfOk-weaker, err_from_is_err_and}
use Rattle.import_expand.specs.Sources.{child_of}
use Rattle.import_expand.specs.Rooms.{objects_in, numbers_of, Later}
use Rattle.import_expand.specs.declared.room.Room.{Room}
use Rattle.import_expand.proofs.ExpandLemmas.{shows_by}
use Rattle.import_expand.proofs.SourceLemmas.{none_of_length}
use Rattle.import_expand.proofs.RoomLemmas.{book_later, child_new, placed, node_after, node_exists, node_numbers, node_shown, found_at, given_up}
use Rattle.import_expand.proofs.room.Room.child_of_many.Goals as goal

pub child_by_any-requires : goal.child_by_any-requires
child_by_any-requires g c =
    let live = g.N.Names.served c.args.names.now in
    let a = c.args.self.now in
    let b : Room = record a { book = c.child_by_label.new.book } in
    let s = c.in-Some.sources.now in
    let w = found_at a.nodes.items c.deref.result.now c.args.of s c.deref.ensures.value c.in-Some.ensures.lookup.0 c.in-Some.ensures.lookup.1 in
    let e = node_exists live a c.args.of s c.requires.sound w.0 w.1 in
    let l : Later live a b = book_later live a b c.in_ok-found.ensures.later refl refl refl c.requires.sound in
    record {
      sound = l.sound;
      lacks = record {
        of = e.of;
        is = node_after live a b c.args.of e.of l e.is;
        none = c.in_ok-found.ensures.none (none_of_length c.in_ok-found.found.items (omega arith)) e.of (shows_by (objects_in a) s.numbers.items c.as_slice.result.now e.of (sym c.as_slice.ensures.value) (node_shown a c.args.of (numbers_of s) e.of (node_numbers a.nodes.items c.args.of s w.0 w.1) e.is));
      };
    }

pub returns-then-len-eq0-clause-found : goal.returns-then-len-eq0-clause-found
returns-then-len-eq0-clause-found g c =
    let live = g.N.Names.served c.args.names.now in
    let a = c.args.self.now in
    let b : Room = record a { book = c.child_by_label.new.book } in
    let l : Later live a b = book_later live a b c.in_ok-found.ensures.later refl refl refl c.requires.sound in
    IfOk-weaker c.child_by_any.result _ _ (λ k h ns node. h ns (node_after live a b c.args.of ns l node)) c.child_by_any.ensures.found

pub returns-clause-found : goal.returns-clause-found
returns-clause-found g c ns node =
    let live = g.N.Names.served c.args.names.now in
    let a = c.args.self.now in
    let b : Room = record a { book = c.child_by_label.new.book } in
    let s = c.in-Some.sources.now in
    let w = found_at a.nodes.items c.deref.result.now c.args.of s c.deref.ensures.value c.in-Some.ensures.lookup.0 c.in-Some.ensures.lookup.1 in
    let shown = c.in_ok-found.ensures.found (λ e. let l = ap length e in omega (arith, l)) ns (shows_by (objects_in a) s.numbers.items c.as_slice.result.now ns (sym c.as_slice.ensures.value) (node_shown a c.args.of (numbers_of s) ns (node_numbers a.nodes.items c.args.of s w.0 w.1) node)) in
    let new = placed live a b c.put_under.new.self c.in_ok-at.at (child_of live ns c.args.label.now) (book_later live a b c.in_ok-found.ensures.later refl refl refl c.requires.sound)
    (c.in_ok-at.ensures.keeps (child_of live ns c.args.label.now) shown) (c.in_ok-at.ensures.at (child_of live ns c.args.label.now) shown) in
    (child_new live a c.put_under.new.self c.keep_child.new.self c.args.of c.in_ok-at.at c.args.label.now (record { of = ns; is = node }) new c.in_ok-keep_child.ensures.later).node

pub returns-clause-later : goal.returns-clause-later
returns-clause-later g c =
    let live = g.N.Names.served c.args.names.now in
    let a = c.args.self.now in
    let b : Room = record a { book = c.child_by_label.new.book } in
    let s = c.in-Some.sources.now in
    let w = found_at a.nodes.items c.deref.result.now c.args.of s c.deref.ensures.value c.in-Some.ensures.lookup.0 c.in-Some.ensures.lookup.1 in
    let e = node_exists live a c.args.of s c.requires.sound w.0 w.1 in
    let shown = c.in_ok-found.ensures.found (λ none. let l = ap length none in omega (arith, l)) e.of (shows_by (objects_in a) s.numbers.items c.as_slice.result.now e.of (sym c.as_slice.ensures.value) (node_shown a c.args.of (numbers_of s) e.of (node_numbers a.nodes.items c.args.of s w.0 w.1) e.is)) in
    let new = placed live a b c.put_under.new.self c.in_ok-at.at (child_of live e.of c.args.label.now) (book_later live a b c.in_ok-found.ensures.later refl refl refl c.requires.sound)
    (c.in_ok-at.ensures.keeps (child_of live e.of c.args.label.now) shown) (c.in_ok-at.ensures.at (child_of live e.of c.args.label.now) shown) in
    (child_new live a c.put_under.new.self c.keep_child.new.self c.args.of c.in_ok-at.at c.args.label.now e new c.in_ok-keep_child.ensures.later).later

pub returns-in_err-found-clause-refused : goal.returns-in_err-found-clause-refused
returns-in_err-found-clause-refused g c =
    let p = err_from_is_err_and c.from_residual.result c.from_residual.ensures.1 in
    rw (p.1, p.2) (given_up (g.N.Names.served c.args.names.now) _ c.in_err-found.field-0.0 c.in_err-found.ensures.refused)
