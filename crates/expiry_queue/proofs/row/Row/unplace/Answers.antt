use Rattle.std.proofs.Common.{is_some, refl}
use Rattle.chain_names.specs.Points.{same_point}
use Rattle.chain_names.specs.Tables.{is_filled}
use Rattle.chain_names.proofs.Changed.{read_at-changed, read_at-kept}
use Rattle.chain_names.proofs.Points.{same_point-true}
use Rattle.expiry_queue.proofs.row.Row.unplace.Goals as goal

pub returns-then-has_empty-clause-queued : goal.returns-then-has_empty-clause-queued
returns-then-has_empty-clause-queued c =
    let empty = c.has_empty.ensures.empty c.if-has_empty.true in
    rw (← c.self.view_is) (read_at-kept same_point is_filled same_point-true _ _ _ _ c.swap_remove.ensures.updates.0 (rw (c.self.view_is, empty) refl))

pub returns-then-has_empty-clause-places : goal.returns-then-has_empty-clause-places
returns-then-has_empty-clause-places c =
    let empty = c.has_empty.ensures.empty c.if-has_empty.true in
    rw (empty, ← c.self.view_is) (read_at-changed same_point is_some _ _ _ _ c.swap_remove.ensures.updates.0)
