use Rattle.std.proofs.Common.{is_some}
use Rattle.chain_names.specs.Points.{same_point}
use Rattle.chain_names.specs.Tables.{is_filled}
use Rattle.chain_names.proofs.Changed.{read_at-changed, read_at-kept}
use Rattle.chain_names.proofs.Points.{same_point-true}
use Rattle.expiry_queue.proofs.RowReadings.{not_filled}
use Rattle.std.proofs.Common.{false, sym}
use Rattle.indexmap.proofs.SetLemmas.{keys_insert_entry}
use Rattle.expiry_queue.proofs.RowReadings.{placed_key}
use Rattle.expiry_queue.proofs.row.Row.place.Goals as goal

pub returns-in_ok-_before-clause-queued : goal.returns-in_ok-_before-clause-queued
returns-in_ok-_before-clause-queued c =
    rw (← c.self.view_is) (read_at-kept same_point is_filled same_point-true _ _ _ _ c.in_ok-_before.ensures.updates.0 (not_filled _ c.if-not-contains_key.ensures))

pub returns-in_ok-_before-clause-ok : goal.returns-in_ok-_before-clause-ok
returns-in_ok-_before-clause-ok c = rw (← c.self.view_is) (read_at-changed same_point is_some _ _ _ _ c.in_ok-_before.ensures.updates.0)

pub returns-in_ok-_before-clause-list : goal.returns-in_ok-_before-clause-list
returns-in_ok-_before-clause-list c =
    rw (c.in_ok-_before.ensures.entries, ← c.self.view_is) (keys_insert_entry same_point c.self.inside.points.entries c.args.at false)

pub returns-else-not-contains_key-clause-list : goal.returns-else-not-contains_key-clause-list
returns-else-not-contains_key-clause-list c = rw (← c.self.view_is) (sym (placed_key c.self.inside.points.entries c.args.at (sym c.if-not-contains_key.ensures)))
