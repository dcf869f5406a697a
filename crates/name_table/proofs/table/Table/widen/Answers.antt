use Rattle.std.proofs.Common.{◌≡◌, true, false, is_some, refl, sym, ap, ◌∙◌, true≢false}
use Rattle.std.proofs.lemmas.Result.{on_err_weaker}
use Rattle.std.specs.Map.{set_value}
use Rattle.std.specs.Str.{bytes_eq}
use Rattle.chain_names.specs.Points.{changed}
use Rattle.chain_names.specs.Tables.{names_in, name_places}
use Rattle.name_table.specs.ByBytes.{by_bytes}
use Rattle.chain_names.proofs.Changed.{set_value-same}
use Rattle.name_table.proofs.ByBytesLemmas.{has_bytes, found}
use Rattle.name_table.proofs.Readings.{reads, kept}
use Rattle.name_table.proofs.KeyLemmas.{same_keys}
use Rattle.name_table.proofs.MeasureLemmas.{measured_reads, measured_entry}
use Rattle.name_table.proofs.table.Table.widen.Goals as goal

pub unreachable-requires : goal.unreachable-requires
unreachable-requires c =
    let absent : name_places c.args.self.now c.args.name.now ≡ false =
    rw (← c.self.view_is, found c.args.name.now c.self.inside.places.entries _ (sym c.in-None.ensures.value)) refl in
    true≢false (sym c.requires ∙ absent)

pub returns-clause-names : goal.returns-clause-names
returns-clause-names c =
    let wrote = c.get_mut.follows.holds c.reserve.new.self in
    let here = sym (ap is_some c.in-Some.ensures.value) in
    let read = reads c.self.inside.places.entries _ c.args.name.now _ (wrote.3 here).1 (wrote.3 here).3 in
    let has = found c.args.name.now c.self.inside.places.entries _ (sym c.in-Some.ensures.value) in
    rw (← c.self.view_is) (read.names ∙ kept (names_in (by_bytes c.self.inside.places.entries)) c.args.name.now _ (rw has (sym c.reserve.ensures.items)))

pub returns-clause-places : goal.returns-clause-places
returns-clause-places c =
    let wrote = c.get_mut.follows.holds c.reserve.new.self in
    let here = sym (ap is_some c.in-Some.ensures.value) in
    let read = reads c.self.inside.places.entries _ c.args.name.now _ (wrote.3 here).1 (wrote.3 here).3 in
    let has = found c.args.name.now c.self.inside.places.entries _ (sym c.in-Some.ensures.value) in
    rw (← c.self.view_is) (read.places ∙ kept (name_places (by_bytes c.self.inside.places.entries)) c.args.name.now true (rw has refl))

pub returns-clause-room : goal.returns-clause-room
returns-clause-room c =
    let here = sym (ap is_some c.in-Some.ensures.value) in
    let now = found c.args.name.now (c.get_mut.follows.lender c.reserve.new.self).entries _ ((c.get_mut.follows.holds c.reserve.new.self).3 here).1 in
    rw now c.reserve.ensures.room

pub returns-clause-no_less : goal.returns-clause-no_less
returns-clause-no_less c =
    let here = sym (ap is_some c.in-Some.ensures.value) in
    let now = found c.args.name.now (c.get_mut.follows.lender c.reserve.new.self).entries _ ((c.get_mut.follows.holds c.reserve.new.self).3 here).1 in
    let has = found c.args.name.now c.self.inside.places.entries _ (sym c.in-Some.ensures.value) in
    rw (← c.self.view_is, now, has) c.reserve.ensures.no_less

pub returns-clause-others : goal.returns-clause-others
returns-clause-others c =
    let wrote = c.get_mut.follows.holds c.reserve.new.self in
    let here = sym (ap is_some c.in-Some.ensures.value) in
    let read = reads c.self.inside.places.entries _ c.args.name.now _ (wrote.3 here).1 (wrote.3 here).3 in
    let now = found c.args.name.now (c.get_mut.follows.lender c.reserve.new.self).entries _ (wrote.3 here).1 in
    rw (← c.self.view_is) (read.room ∙ ap (changed bytes_eq _ _) (rw now refl))

pub returns-clause-err : goal.returns-clause-err
returns-clause-err c =
    let wrote = c.get_mut.follows.holds c.reserve.new.self in
    on_err_weaker c.reserve.result (λ same.
    rw (← c.self.view_is) (ap by_bytes (wrote.0 ∙ ap (set_value (has_bytes c.args.name.now) c.self.inside.places.entries) same ∙ set_value-same (has_bytes c.args.name.now) c.self.inside.places.entries _ (sym c.in-Some.ensures.value))))
    c.reserve.ensures.err

pub returns-clause-list : goal.returns-clause-list
returns-clause-list c = rw (← c.self.view_is) (same_keys c.self.inside.places.entries _ (c.get_mut.follows.holds c.reserve.new.self).1)

pub invariant_of-self : goal.invariant_of-self
invariant_of-self c =
    let entries = c.self.inside.places.entries in
    let wrote = (c.get_mut.follows.holds c.reserve.new.self).3 (sym (ap is_some c.in-Some.ensures.value)) in
    let before = measured_entry entries c.args.name.now _ (sym c.in-Some.ensures.value) c.self.invariant.0 in (
      measured_reads entries _ c.args.name.now _ wrote.1 wrote.3 c.self.invariant.0 (rw c.reserve.ensures.items before),
      rw (same_keys entries _ (c.get_mut.follows.holds c.reserve.new.self).1) c.self.invariant.1,
    )
