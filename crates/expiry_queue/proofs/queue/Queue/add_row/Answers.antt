use Rattle.std.proofs.Common.{◌≡◌, [], true, None, nat_eq, sym, ap, ◌∙◌}
use Rattle.std.proofs.lemmas.Bool.{eqb-true}
use Rattle.std.specs.Map.{lookup}
use Rattle.chain_names.specs.Points.{same_point, changed}
use Rattle.chain_names.specs.Tables.{row_of}
use Rattle.chain_names.proofs.Changed.{read_at-kept}
use Rattle.expiry_queue.specs.OneRow.{RowSlots, row_queued, row_places}
use Rattle.expiry_queue.proofs.RowReadings.{queued_of, queue_places-changed}
use Rattle.std.specs.Map.{keys_of}
use Rattle.indexmap.specs.IndexSet.{insert_key}
use Rattle.expiry_queue.proofs.RowReadings.{row_points-changed}
use Rattle.expiry_queue.proofs.queue.Queue.add_row.Goals as goal

pub returns-clause-queued : goal.returns-clause-queued
returns-clause-queued c =
    let none : lookup (nat_eq c.args.height) c.self.inside.rows.entries ≡ None = rw c.self.view_is c.requires in
    let row = c.in_ok-place.ensures.queued ∙ ap row_queued c.new-row.ensures in
    rw (← c.self.view_is) (read_at-kept nat_eq queued_of eqb-true _ _ _ _ c.in_ok-insert.ensures.updates.0 (rw none (sym row)))

pub returns-clause-ok : goal.returns-clause-ok
returns-clause-ok c =
    let none : lookup (nat_eq c.args.height) c.self.inside.rows.entries ≡ None = rw c.self.view_is c.requires in
    let row = c.in_ok-place.ensures.ok ∙ ap (λ (row : RowSlots). changed same_point (row_places row) c.args.at true) c.new-row.ensures in
    rw (← c.self.view_is)
    (queue_places-changed c.self.inside.rows.entries _ c.args.height [] _ _ (λ (row : RowSlots). true) c.in_ok-insert.ensures.updates.0 (ap row_of none) row)

pub returns-clause-list : goal.returns-clause-list
returns-clause-list c =
    let none : lookup (nat_eq c.args.height) c.self.inside.rows.entries ≡ None = rw c.self.view_is c.requires in
    let row = c.in_ok-place.ensures.list ∙ ap (λ (row : RowSlots). insert_key same_point (keys_of row) c.args.at) c.new-row.ensures in
    rw (← c.self.view_is)
    (row_points-changed c.self.inside.rows.entries _ c.args.height [] _ (λ points. insert_key same_point points c.args.at) c.in_ok-insert.ensures.updates.0 (ap row_of none) row)
