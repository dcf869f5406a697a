use Rattle.std.proofs.Common.{is_some}
use Rattle.std.specs.Map.{lookup}
use Rattle.chain_names.specs.Points.{same_point}
use Rattle.chain_names.specs.Tables.{is_filled}
use Rattle.chain_names.proofs.Changed.{read_at-changed, read_at-kept}
use Rattle.chain_names.proofs.Points.{same_point-true}
use Rattle.expiry_queue.proofs.RowReadings.{placed_where_filled}
use Rattle.std.proofs.Common.{false, ◌∙◌}
use Rattle.indexmap.proofs.SetLemmas.{keys_insert_entry}
use Rattle.expiry_queue.proofs.RowReadings.{placed_key}
use Rattle.expiry_queue.proofs.row.Row.take.Goals as goal

pub returns-clause-queued : goal.returns-clause-queued
returns-clause-queued c = rw (← c.self.view_is) (read_at-changed same_point is_filled _ _ _ _ c.in-Ok.ensures.updates.0)

pub returns-clause-places : goal.returns-clause-places
returns-clause-places c =
    rw (← c.self.view_is) (read_at-kept same_point is_some same_point-true _ _ _ _ c.in-Ok.ensures.updates.0
    (placed_where_filled (lookup (same_point c.args.at.now) c.self.inside.points.entries) (rw c.self.view_is c.if-not-has.ensures)))

pub returns-clause-list : goal.returns-clause-list
returns-clause-list c =
    let here = placed_where_filled (lookup (same_point c.args.at.now) c.self.inside.points.entries) (rw c.self.view_is c.if-not-has.ensures) in
    rw (c.in-Ok.ensures.entries, ← c.self.view_is)
    (keys_insert_entry same_point c.self.inside.points.entries c.args.at.now false ∙ placed_key c.self.inside.points.entries c.args.at.now here)
