use Rattle.std.proofs.lemmas.Result.{err_from_is_err_and}
use Rattle.std.proofs.Common.{refl, arith, get_or}
use Rattle.std.proofs.lemmas.Option.{slice_get-get_or}
use Rattle.serde_json.specs.Data.{no_members}
use Rattle.import_expand.specs.Sources.{sources_of}
use Rattle.import_expand.specs.Rooms.{objects_in}
use Rattle.import_expand.specs.declared.room.Room.{Room}
use Rattle.import_expand.proofs.RoomLemmas.{book_later, placed, top_new, given_up}
use Rattle.import_expand.proofs.room.Room.top.Goals as goal

pub returns-in_ok-keep_top-in-None-clause-found : goal.returns-in_ok-keep_top-in-None-clause-found
returns-in_ok-keep_top-in-None-clause-found g c o here =
    let live = g.N.Names.served c.args.names.now in
    let a = c.args.self.now in
    let b : Room = record a { book = c.top_sources.new.book } in
    let shown = c.in_ok-found-in-None.ensures.found o here in
    let new = placed live a b c.put.new.self c.in_ok-at-in-None.at (sources_of live 0 o) (book_later live a b c.in_ok-found-in-None.ensures.later refl refl refl c.requires.sound) (c.in_ok-at-in-None.ensures.keeps (sources_of live 0 o) shown) (c.in_ok-at-in-None.ensures.at (sources_of live 0 o) shown) in
    (top_new live a c.put.new.self c.keep_top.new.self c.args.of c.in_ok-at-in-None.at o here new c.in_ok-keep_top-in-None.ensures.later).node

pub returns-in_ok-keep_top-in-None-clause-later : goal.returns-in_ok-keep_top-in-None-clause-later
returns-in_ok-keep_top-in-None-clause-later g c =
    let live = g.N.Names.served c.args.names.now in
    let a = c.args.self.now in
    let b : Room = record a { book = c.top_sources.new.book } in
    let o = get_or (objects_in a) c.args.of no_members in
    let here = slice_get-get_or (objects_in a) c.args.of no_members (omega arith) in
    let shown = c.in_ok-found-in-None.ensures.found o here in
    let new = placed live a b c.put.new.self c.in_ok-at-in-None.at (sources_of live 0 o) (book_later live a b c.in_ok-found-in-None.ensures.later refl refl refl c.requires.sound) (c.in_ok-at-in-None.ensures.keeps (sources_of live 0 o) shown) (c.in_ok-at-in-None.ensures.at (sources_of live 0 o) shown) in
    (top_new live a c.put.new.self c.keep_top.new.self c.args.of c.in_ok-at-in-None.at o here new c.in_ok-keep_top-in-None.ensures.later).later

pub returns-in_err-found-in-None-clause-refused : goal.returns-in_err-found-in-None-clause-refused
returns-in_err-found-in-None-clause-refused g c =
    let p = err_from_is_err_and c.from_residual.result c.from_residual.ensures.1 in
    rw (p.1, p.2) (given_up (g.N.Names.served c.args.names.now) _ c.in_err-found-in-None.field-0.0 c.in_err-found-in-None.ensures.refused)
