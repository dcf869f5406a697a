use Rattle.std.proofs.Common.{◌≡◌, true, false, sym, ◌∙◌, arith}
use Rattle.std.specs.List.{list_any}
use Rattle.std.specs.Map.{lookup, keys_of}
use Rattle.std.proofs.lemmas.Map.Made.{is_some-lookup}
use Rattle.std.specs.Str.{bytes_eq}
use Rattle.chain_names.specs.Tables.{name_places, room_in}
use Rattle.name_table.proofs.ByBytesLemmas.{lookup-by_bytes}
use Rattle.name_table.proofs.Readings.{kept, no_room_fell, no_spare, on_ok_from}
use Rattle.name_table.proofs.table.Table.place.Goals as goal

pub widen-requires : goal.widen-requires
widen-requires g c = rw (← c.self.view_is, lookup-by_bytes c.args.name.now c.self.inside.places.entries) (sym c.if-contains_key.ensures)

pub add-requires : goal.add-requires
add-requires g c = rw (← c.self.view_is, lookup-by_bytes c.args.name.now c.self.inside.places.entries) (sym c.if-contains_key.ensures)

pub returns-then-contains_key-clause-ok : goal.returns-then-contains_key-clause-ok
returns-then-contains_key-clause-ok g c =
    let placed : name_places c.args.self.now c.args.name.now ≡ true =
    rw (← c.self.view_is, lookup-by_bytes c.args.name.now c.self.inside.places.entries) (sym c.if-contains_key.ensures) in
    on_ok_from c.widen.result (c.widen.ensures.places ∙ sym (kept (name_places c.args.self.now) c.args.name.now true placed))

pub returns-then-contains_key-clause-no_less : goal.returns-then-contains_key-clause-no_less
returns-then-contains_key-clause-no_less g c =
    no_room_fell (room_in c.args.self.now) (room_in c.widen.new.self) c.args.name.now c.widen.ensures.others c.widen.ensures.no_less

pub returns-else-contains_key-clause-no_less : goal.returns-else-contains_key-clause-no_less
returns-else-contains_key-clause-no_less g c =
    let absent : name_places c.args.self.now c.args.name.now ≡ false =
    rw (← c.self.view_is, lookup-by_bytes c.args.name.now c.self.inside.places.entries) (sym c.if-contains_key.ensures) in
    let none : room_in c.args.self.now c.args.name.now ≡ 0 = no_spare (lookup (bytes_eq c.args.name.now) c.args.self.now) absent in
    no_room_fell (room_in c.args.self.now) (room_in c.add.new.self) c.args.name.now c.add.ensures.others (omega arith)

pub returns-then-contains_key-clause-list : goal.returns-then-contains_key-clause-list
returns-then-contains_key-clause-list g c =
    let placed : name_places c.args.self.now c.args.name.now ≡ true =
    rw (← c.self.view_is, lookup-by_bytes c.args.name.now c.self.inside.places.entries) (sym c.if-contains_key.ensures) in
    let here : list_any (bytes_eq c.args.name.now) (keys_of c.args.self.now) ≡ true = sym (is_some-lookup (bytes_eq c.args.name.now) c.args.self.now) ∙ placed in
    on_ok_from c.widen.result (rw here c.widen.ensures.list)
