use Rattle.std.proofs.Common.{◌≡◌, [], true, false, None, refl, sym, ap, ◌∙◌}
use Rattle.std.specs.Map.{lookup}
use Rattle.std.specs.Str.{bytes_eq}
use Rattle.chain_names.specs.Tables.{names_in, name_places, room_in}
use Rattle.name_table.specs.ByBytes.{by_bytes}
use Rattle.name_table.proofs.EntryLemmas.{empty_from_length, filled_from_length}
use Rattle.name_table.proofs.Readings.{reads, kept, has_entry, has_place}
use Rattle.chain_names.specs.Coins.{entry_of}
use Rattle.std.specs.Option.{is_some}
use Rattle.nmc_base.proofs.OptionLemmas.{none_there}
use Rattle.name_table.proofs.ByBytesLemmas.{IsDistinct-by_bytes, lookup-by_bytes}
use Rattle.name_table.proofs.MeasureLemmas.{measured_reads}
use Rattle.name_table.proofs.table.Table.unplace.Goals as goal

pub returns-then-is_empty-clause-names : goal.returns-then-is_empty-clause-names
returns-then-is_empty-clause-names g c =
    let read = reads c.self.inside.places.entries _ c.args.name.now None c.swap_remove.ensures.updates.1 c.swap_remove.ensures.updates.3 in
    let empty = sym c.held.ensures.items ∙ empty_from_length c.held.result.now c.if-is_empty.ensures in
    rw (← c.self.view_is) (read.names ∙ kept (names_in (by_bytes c.self.inside.places.entries)) c.args.name.now [] (rw c.self.view_is empty))

pub returns-then-is_empty-clause-places : goal.returns-then-is_empty-clause-places
returns-then-is_empty-clause-places g c =
    let read = reads c.self.inside.places.entries _ c.args.name.now None c.swap_remove.ensures.updates.1 c.swap_remove.ensures.updates.3 in
    let empty = sym c.held.ensures.items ∙ empty_from_length c.held.result.now c.if-is_empty.ensures in
    rw (empty, ← c.self.view_is) read.places

pub returns-then-is_empty-clause-room : goal.returns-then-is_empty-clause-room
returns-then-is_empty-clause-room g c =
    let read = reads c.self.inside.places.entries _ c.args.name.now None c.swap_remove.ensures.updates.1 c.swap_remove.ensures.updates.3 in
    let empty = sym c.held.ensures.items ∙ empty_from_length c.held.result.now c.if-is_empty.ensures in
    rw (empty, ← c.self.view_is) read.room

pub returns-else-is_empty-clause-places : goal.returns-else-is_empty-clause-places
returns-else-is_empty-clause-places g c =
    let some = λ (h : names_in c.args.self.now c.args.name.now ≡ []). filled_from_length c.held.result.now c.if-is_empty.ensures (c.held.ensures.items ∙ h) in
    let place = has_place (lookup (bytes_eq c.args.name.now) c.args.self.now) some in
    let entry = has_entry (lookup (bytes_eq c.args.name.now) c.args.self.now) some in
    rw entry (sym (kept (name_places c.args.self.now) c.args.name.now true place))

pub returns-else-is_empty-clause-room : goal.returns-else-is_empty-clause-room
returns-else-is_empty-clause-room g c =
    let some = λ (h : names_in c.args.self.now c.args.name.now ≡ []). filled_from_length c.held.result.now c.if-is_empty.ensures (c.held.ensures.items ∙ h) in
    let entry = has_entry (lookup (bytes_eq c.args.name.now) c.args.self.now) some in
    rw entry (sym (kept (room_in c.args.self.now) c.args.name.now _ refl))

pub returns-then-is_empty-clause-list : goal.returns-then-is_empty-clause-list
returns-then-is_empty-clause-list g c h =
    let empty = sym c.held.ensures.items ∙ empty_from_length c.held.result.now c.if-is_empty.ensures in
    let absent : name_places c.args.self.now c.args.name.now ≡ false = h ∙ ap (λ items. is_some (entry_of items)) empty in
    let none : lookup (bytes_eq c.args.name.now) c.args.self.now ≡ None = none_there _ absent in
    let result : c.swap_remove.result ≡ None = c.swap_remove.ensures.value ∙ sym (lookup-by_bytes c.args.name.now c.self.inside.places.entries) ∙ rw c.self.view_is none in
    rw (← c.self.view_is) (ap by_bytes (rw result at c.swap_remove.ensures.unchanged))

pub invariant_of-self : goal.invariant_of-self
invariant_of-self g c = (
  measured_reads c.self.inside.places.entries _ c.args.name.now None c.swap_remove.ensures.updates.1 c.swap_remove.ensures.updates.3 c.self.invariant.0 tt,
  IsDistinct-by_bytes _ c.swap_remove.ensures.unique,
)
