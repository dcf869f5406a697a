use Rattle.std.proofs.Common.{◌≡◌, [], true, Option, is_some, refl, sym, ap, ◌∙◌}
use Rattle.std.specs.Str.{bytes_eq}
use Rattle.nmc_base.specs.Roomy.{Roomy}
use Rattle.chain_names.specs.declared.coin.Item.{Item}
use Rattle.chain_names.specs.Changes.{without_entry}
use Rattle.chain_names.specs.Points.{changed}
use Rattle.chain_names.specs.Tables.{names_in, name_places, room_in, items_of}
use Rattle.name_table.specs.ByBytes.{by_bytes}
use Rattle.name_table.proofs.ByBytesLemmas.{found}
use Rattle.name_table.proofs.EntryLemmas.{popped-entry, popped-rest}
use Rattle.name_table.proofs.Readings.{reads, kept}
use Rattle.name_table.proofs.KeyLemmas.{same_keys}
use Rattle.name_table.proofs.MeasureLemmas.{measured_reads, measured_entry, all-without_entry}
use Rattle.name_table.proofs.table.Table.pop.Goals as goal

pub returns-in_err-history-clause-value : goal.returns-in_err-history-clause-value
returns-in_err-history-clause-value g c =
    rw (c.from_residual.ensures, ← c.self.view_is, found c.args.name.now c.self.inside.places.entries _ (sym c.in_err-history.ensures.value)) refl

pub returns-in_err-history-clause-names : goal.returns-in_err-history-clause-names
returns-in_err-history-clause-names g c =
    let has = found c.args.name.now c.self.inside.places.entries _ (sym c.in_err-history.ensures.value) in
    let none : without_entry (names_in (by_bytes c.self.inside.places.entries) c.args.name.now) ≡ [] = ap (λ (e : Option (Roomy Item)). without_entry (items_of e)) has in
    let same = kept (names_in (by_bytes c.self.inside.places.entries)) c.args.name.now [] (ap items_of has) in
    rw (c.get_mut.follows.holds-at-none, ← c.self.view_is, none) (sym same)

pub returns-clause-value : goal.returns-clause-value
returns-clause-value g c =
    let has = found c.args.name.now c.self.inside.places.entries _ (sym c.in_ok-history.ensures.value) in
    rw (← c.self.view_is, has) (popped-entry c.pop.result _ _ c.pop.ensures.some c.pop.ensures.none)

pub returns-clause-names : goal.returns-clause-names
returns-clause-names g c =
    let wrote = c.get_mut.follows.holds c.pop.new.self in
    let here = sym (ap is_some c.in_ok-history.ensures.value) in
    let read = reads c.self.inside.places.entries _ c.args.name.now _ (wrote.3 here).1 (wrote.3 here).3 in
    let has = found c.args.name.now c.self.inside.places.entries _ (sym c.in_ok-history.ensures.value) in
    let rest = popped-rest c.pop.result c.in_ok-history.history.now c.pop.new.self c.pop.ensures.some c.pop.ensures.none c.pop.ensures.same in
    rw (← c.self.view_is) (rw has (read.names ∙ ap (changed bytes_eq _ _) rest))

pub returns-clause-places : goal.returns-clause-places
returns-clause-places g c =
    let wrote = c.get_mut.follows.holds c.pop.new.self in
    let here = sym (ap is_some c.in_ok-history.ensures.value) in
    let read = reads c.self.inside.places.entries _ c.args.name.now _ (wrote.3 here).1 (wrote.3 here).3 in
    let has = found c.args.name.now c.self.inside.places.entries _ (sym c.in_ok-history.ensures.value) in
    rw (← c.self.view_is) (read.places ∙ kept (name_places (by_bytes c.self.inside.places.entries)) c.args.name.now true (rw has refl))

pub returns-clause-room : goal.returns-clause-room
returns-clause-room g c =
    let wrote = c.get_mut.follows.holds c.pop.new.self in
    let here = sym (ap is_some c.in_ok-history.ensures.value) in
    let read = reads c.self.inside.places.entries _ c.args.name.now _ (wrote.3 here).1 (wrote.3 here).3 in
    let has = found c.args.name.now c.self.inside.places.entries _ (sym c.in_ok-history.ensures.value) in
    rw (← c.self.view_is) (read.room ∙ kept (room_in (by_bytes c.self.inside.places.entries)) c.args.name.now _ (rw has (sym c.pop.ensures.spare)))

pub returns-clause-list : goal.returns-clause-list
returns-clause-list g c = rw (← c.self.view_is) (same_keys c.self.inside.places.entries _ (c.get_mut.follows.holds c.pop.new.self).1)

pub invariant_of-self-2 : goal.invariant_of-self-2
invariant_of-self-2 g c =
    let entries = c.self.inside.places.entries in
    let wrote = (c.get_mut.follows.holds c.pop.new.self).3 (sym (ap is_some c.in_ok-history.ensures.value)) in
    let before = measured_entry entries c.args.name.now _ (sym c.in_ok-history.ensures.value) c.self.invariant.0 in
    let rest = popped-rest c.pop.result c.in_ok-history.history.now c.pop.new.self c.pop.ensures.some c.pop.ensures.none c.pop.ensures.same in (
      measured_reads entries _ c.args.name.now _ wrote.1 wrote.3 c.self.invariant.0 (rw rest (all-without_entry _ before)),
      rw (same_keys entries _ (c.get_mut.follows.holds c.pop.new.self).1) c.self.invariant.1,
    )
