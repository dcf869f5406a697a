use Rattle.std.proofs.Common.{◌≡◌, [], nat_eq, ap}
use Rattle.std.proofs.lemmas.Bool.{eqb-true}
use Rattle.chain_names.specs.Tables.{queued_in, queue_places, row_at}
use Rattle.chain_names.proofs.Changed.{read_at-kept}
use Rattle.expiry_queue.specs.OneRow.{row_queued, row_places}
use Rattle.expiry_queue.proofs.RowReadings.{queued_of, places_of}
use Rattle.std.specs.Map.{keys_of}
use Rattle.std.proofs.Common.{◌∙◌}
use Rattle.chain_names.specs.Tables.{row_points}
use Rattle.expiry_queue.specs.OneRow.{RowSlots}
use Rattle.expiry_queue.proofs.RowReadings.{points_of}
use Rattle.expiry_queue.proofs.queue.Queue.unplace.Goals as goal

pub returns-then-has_empty_row-clause-queued : goal.returns-then-has_empty_row-clause-queued
returns-then-has_empty_row-clause-queued g c =
    let empty = c.has_empty_row.ensures.empty c.if-has_empty_row.true in
    let row : row_at c.self.inside.rows.entries c.args.height ≡ [] = rw c.self.view_is empty in
    let kept : queued_in c.swap_remove.new.self.entries ≡ queued_in c.unplace_in_row.new.self =
    rw (← c.self.view_is) (read_at-kept nat_eq queued_of eqb-true _ _ _ _ c.swap_remove.ensures.updates.0 (ap row_queued row)) in
    rw kept c.unplace_in_row.ensures.queued

pub returns-then-has_empty_row-clause-places : goal.returns-then-has_empty_row-clause-places
returns-then-has_empty_row-clause-places g c =
    let empty = c.has_empty_row.ensures.empty c.if-has_empty_row.true in
    let row : row_at c.self.inside.rows.entries c.args.height ≡ [] = rw c.self.view_is empty in
    let kept : queue_places c.swap_remove.new.self.entries ≡ queue_places c.unplace_in_row.new.self =
    rw (← c.self.view_is) (read_at-kept nat_eq places_of eqb-true _ _ _ _ c.swap_remove.ensures.updates.0 (ap row_places row)) in
    rw kept c.unplace_in_row.ensures.places

pub returns-then-has_empty_row-clause-list : goal.returns-then-has_empty_row-clause-list
returns-then-has_empty_row-clause-list g c h =
    let empty = c.has_empty_row.ensures.empty c.if-has_empty_row.true in
    let row : row_at c.self.inside.rows.entries c.args.height ≡ [] = rw c.self.view_is empty in
    let kept : row_points c.swap_remove.new.self.entries ≡ row_points c.unplace_in_row.new.self =
    rw (← c.self.view_is) (read_at-kept nat_eq points_of eqb-true _ _ _ _ c.swap_remove.ensures.updates.0 (ap (λ (r : RowSlots). keys_of r) row)) in
    kept ∙ c.unplace_in_row.ensures.list h
