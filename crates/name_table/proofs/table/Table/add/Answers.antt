use Rattle.std.proofs.Common.{◌≡◌, [], refl, sym, ap, ◌∙◌}
use Rattle.std.specs.Map.{lookup}
use Rattle.std.specs.Str.{bytes_eq}
use Rattle.nmc_base.specs.Roomy.{Roomy}
use Rattle.chain_names.specs.declared.coin.Item.{Item}
use Rattle.chain_names.specs.Points.{changed}
use Rattle.chain_names.specs.Tables.{names_in}
use Rattle.name_table.specs.ByBytes.{by_bytes}
use Rattle.name_table.proofs.ByBytesLemmas.{IsDistinct-by_bytes, found}
use Rattle.name_table.proofs.Readings.{reads, kept, no_items}
use Rattle.name_table.proofs.KeyLemmas.{inserted_keys}
use Rattle.name_table.proofs.MeasureLemmas.{measured_reads}
use Rattle.name_table.proofs.table.Table.add.Goals as goal

pub returns-clause-names : goal.returns-clause-names
returns-clause-names c =
    let updates = c.in_ok-before.ensures.updates in
    let read = reads c.self.inside.places.entries _ c.in_ok-key.key.items _ updates.1 updates.3 in
    let none : names_in c.args.self.now c.args.name.now ≡ [] = no_items (lookup (bytes_eq c.args.name.now) c.args.self.now) c.requires in
    let items : c.reserve.new.self.items ≡ [] = c.reserve.ensures.items ∙ ap (λ (h : Roomy Item). h.items) c.new-history.ensures in
    rw (← c.self.view_is) (read.names ∙ kept (names_in (by_bytes c.self.inside.places.entries)) c.in_ok-key.key.items _ (rw (c.in_ok-key.ensures.items, c.self.view_is) (none ∙ sym items)))

pub returns-clause-ok : goal.returns-clause-ok
returns-clause-ok c =
    let updates = c.in_ok-before.ensures.updates in
    let read = reads c.self.inside.places.entries _ c.in_ok-key.key.items _ updates.1 updates.3 in
    rw (← c.in_ok-key.ensures.items, ← c.self.view_is) read.places

pub returns-clause-room : goal.returns-clause-room
returns-clause-room c =
    let now = found c.in_ok-key.key.items _ _ c.in_ok-before.ensures.updates.1 in
    rw (← c.in_ok-key.ensures.items, now) c.in_ok-reserve.ensures.room

pub returns-clause-others : goal.returns-clause-others
returns-clause-others c =
    let updates = c.in_ok-before.ensures.updates in
    let read = reads c.self.inside.places.entries _ c.in_ok-key.key.items _ updates.1 updates.3 in
    let now = found c.in_ok-key.key.items _ _ updates.1 in
    rw (← c.in_ok-key.ensures.items, ← c.self.view_is) (read.room ∙ ap (changed bytes_eq _ _) (rw now refl))

pub returns-clause-list : goal.returns-clause-list
returns-clause-list c =
    rw (c.in_ok-before.ensures.entries, ← c.self.view_is, ← c.in_ok-key.ensures.items) (inserted_keys c.self.inside.places.entries c.in_ok-key.key c.reserve.new.self)

pub invariant_of-self-2 : goal.invariant_of-self-2
invariant_of-self-2 c =
    let updates = c.in_ok-before.ensures.updates in
    let items : c.reserve.new.self.items ≡ [] = c.reserve.ensures.items ∙ ap (λ (h : Roomy Item). h.items) c.new-history.ensures in
    (measured_reads c.self.inside.places.entries _ c.in_ok-key.key.items _ updates.1 updates.3 c.self.invariant.0 (rw items tt), IsDistinct-by_bytes _ c.in_ok-before.ensures.unique)
