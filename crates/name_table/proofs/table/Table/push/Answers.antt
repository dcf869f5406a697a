use Rattle.std.proofs.Common.{◌≡◌, ◌-◌, true, false, is_some, refl, sym, ap, ◌∙◌, true≢false, arith}
use Rattle.std.specs.Str.{bytes_eq}
use Rattle.chain_names.specs.Points.{changed}
use Rattle.chain_names.specs.Tables.{name_places, room_in}
use Rattle.name_table.specs.ByBytes.{by_bytes}
use Rattle.name_table.proofs.ByBytesLemmas.{found}
use Rattle.name_table.proofs.Readings.{reads, kept}
use Rattle.name_table.proofs.KeyLemmas.{same_keys}
use Rattle.name_table.proofs.MeasureLemmas.{measured_reads, measured_entry}
use Rattle.nmc_base.proofs.ListLemmas.{all-more}
use Rattle.chain_names.specs.Measured.{IsMeasuredItem}
use Rattle.name_table.proofs.table.Table.push.Goals as goal

pub push-requires : goal.push-requires
push-requires g c =
    let has = found c.args.name.now c.self.inside.places.entries _ (sym c.in-Some.ensures.value) in
    let room : room_in c.args.self.now c.args.name.now ≡ c.in-Some.history.now.spare = rw (← c.self.view_is, has) refl in
    omega (arith, c.requires.room)

pub unreachable-requires : goal.unreachable-requires
unreachable-requires g c =
    let absent : name_places c.args.self.now c.args.name.now ≡ false =
    rw (← c.self.view_is, found c.args.name.now c.self.inside.places.entries _ (sym c.in-None.ensures.value)) refl in
    true≢false (sym c.requires.placed ∙ absent)

pub returns-clause-names : goal.returns-clause-names
returns-clause-names g c =
    let wrote = c.get_mut.follows.holds c.push.new.self in
    let here = sym (ap is_some c.in-Some.ensures.value) in
    let read = reads c.self.inside.places.entries _ c.args.name.now _ (wrote.3 here).1 (wrote.3 here).3 in
    let has = found c.args.name.now c.self.inside.places.entries _ (sym c.in-Some.ensures.value) in
    rw (← c.self.view_is) (rw has (read.names ∙ ap (changed bytes_eq _ _) c.push.ensures.items))

pub returns-clause-places : goal.returns-clause-places
returns-clause-places g c =
    let wrote = c.get_mut.follows.holds c.push.new.self in
    let here = sym (ap is_some c.in-Some.ensures.value) in
    let read = reads c.self.inside.places.entries _ c.args.name.now _ (wrote.3 here).1 (wrote.3 here).3 in
    let has = found c.args.name.now c.self.inside.places.entries _ (sym c.in-Some.ensures.value) in
    rw (← c.self.view_is) (read.places ∙ kept (name_places (by_bytes c.self.inside.places.entries)) c.args.name.now true (rw has refl))

pub returns-clause-room : goal.returns-clause-room
returns-clause-room g c =
    let wrote = c.get_mut.follows.holds c.push.new.self in
    let here = sym (ap is_some c.in-Some.ensures.value) in
    let read = reads c.self.inside.places.entries _ c.args.name.now _ (wrote.3 here).1 (wrote.3 here).3 in
    let has = found c.args.name.now c.self.inside.places.entries _ (sym c.in-Some.ensures.value) in
    let less : c.push.new.self.spare ≡ c.in-Some.history.now.spare - 1 = omega (arith, c.push.ensures.spare) in
    rw (← c.self.view_is) (rw has (read.room ∙ ap (changed bytes_eq _ _) less))

pub returns-clause-list : goal.returns-clause-list
returns-clause-list g c = rw (← c.self.view_is) (same_keys c.self.inside.places.entries _ (c.get_mut.follows.holds c.push.new.self).1)

pub invariant_of-self : goal.invariant_of-self
invariant_of-self g c =
    let entries = c.self.inside.places.entries in
    let wrote = (c.get_mut.follows.holds c.push.new.self).3 (sym (ap is_some c.in-Some.ensures.value)) in
    let before = measured_entry entries c.args.name.now _ (sym c.in-Some.ensures.value) c.self.invariant.0 in (
      measured_reads entries _ c.args.name.now _ wrote.1 wrote.3 c.self.invariant.0 (rw c.push.ensures.items (all-more IsMeasuredItem _ c.args.item before c.read_widths.ensures)),
      rw (same_keys entries _ (c.get_mut.follows.holds c.push.new.self).1) c.self.invariant.1,
    )
