use Rattle.std.proofs.Common.{is_some}
use Rattle.chain_names.specs.Points.{same_point}
use Rattle.chain_names.specs.Tables.{is_filled}
use Rattle.chain_names.proofs.Changed.{read_at-changed, read_at-kept}
use Rattle.chain_names.proofs.Points.{same_point-true}
use Rattle.std.proofs.Common.{true, ◌∙◌}
use Rattle.indexmap.proofs.SetLemmas.{keys_insert_entry}
use Rattle.expiry_queue.proofs.RowReadings.{placed_key}
use Rattle.expiry_queue.proofs.row.Row.put.Goals as goal

pub returns-clause-queued : goal.returns-clause-queued
returns-clause-queued c = rw (← c.self.view_is) (read_at-changed same_point is_filled _ _ _ _ c.in-Ok.ensures.updates.0)

pub returns-clause-places : goal.returns-clause-places
returns-clause-places c =
    rw (← c.self.view_is) (read_at-kept same_point is_some same_point-true _ _ _ _ c.in-Ok.ensures.updates.0 (rw c.self.view_is c.requires.placed))

pub returns-clause-list : goal.returns-clause-list
returns-clause-list c =
    rw (c.in-Ok.ensures.entries, ← c.self.view_is)
    (keys_insert_entry same_point c.self.inside.points.entries c.args.at.now true ∙ placed_key c.self.inside.points.entries c.args.at.now (rw c.self.view_is c.requires.placed))
