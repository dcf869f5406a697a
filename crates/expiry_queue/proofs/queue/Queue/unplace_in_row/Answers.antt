use Rattle.std.proofs.Common.{◌≡◌, Some, None, nat_eq, is_some, refl, sym, ap}
use Rattle.std.proofs.lemmas.Bool.{eqb-true}
use Rattle.std.specs.Map.{lookup}
use Rattle.chain_names.specs.Tables.{queued_in, queue_places, row_of}
use Rattle.chain_names.proofs.Changed.{read_at-kept}
use Rattle.expiry_queue.specs.OneRow.{RowSlots, row_queued}
use Rattle.expiry_queue.proofs.RowReadings.{queued_of, height_kept, point_kept, queue_places-changed}
use Rattle.std.specs.Map.{keys_of}
use Rattle.expiry_queue.proofs.RowReadings.{points_of}
use Rattle.expiry_queue.proofs.queue.Queue.unplace_in_row.Goals as goal

pub returns-in_default-clause-places : goal.returns-in_default-clause-places
returns-in_default-clause-places c =
    let none : lookup (nat_eq c.args.height) c.self.inside.rows.entries ≡ None = sym c.in_default.ensures.value in
    let places = queue_places c.self.inside.rows.entries in
    let same : places c.args.height c.args.at.now ≡ queued_in c.self.inside.rows.entries c.args.height c.args.at.now = rw none refl in
    let row = point_kept (places c.args.height) c.args.at.now (queued_in c.self.inside.rows.entries c.args.height c.args.at.now) same in
    rw (c.get_mut.follows.holds-at-none, ← c.self.view_is) (sym (height_kept places c.args.height _ (sym row)))

pub returns-clause-queued : goal.returns-clause-queued
returns-clause-queued c =
    let has : lookup (nat_eq c.args.height) c.self.inside.rows.entries ≡ Some c.in-Some.row.now = sym c.in-Some.ensures.value in
    let here = sym (ap is_some c.in-Some.ensures.value) in
    let updates = ((c.get_mut.follows.holds c.unplace.new.self).3 here).0 in
    rw (← c.self.view_is) (read_at-kept nat_eq queued_of eqb-true _ _ _ _ updates (rw has (sym c.unplace.ensures.queued)))

pub returns-clause-places : goal.returns-clause-places
returns-clause-places c =
    let has : lookup (nat_eq c.args.height) c.self.inside.rows.entries ≡ Some c.in-Some.row.now = sym c.in-Some.ensures.value in
    let here = sym (ap is_some c.in-Some.ensures.value) in
    let updates = ((c.get_mut.follows.holds c.unplace.new.self).3 here).0 in
    rw (← c.self.view_is) (queue_places-changed c.self.inside.rows.entries _ c.args.height _ _ _ (λ (row : RowSlots). row_queued row c.args.at.now) updates (ap row_of has) c.unplace.ensures.places)

pub returns-clause-list : goal.returns-clause-list
returns-clause-list c h =
    let has : lookup (nat_eq c.args.height) c.self.inside.rows.entries ≡ Some c.in-Some.row.now = sym c.in-Some.ensures.value in
    let here = sym (ap is_some c.in-Some.ensures.value) in
    let updates = ((c.get_mut.follows.holds c.unplace.new.self).3 here).0 in
    let same = c.unplace.ensures.list (rw has at (rw (← c.self.view_is) at h)) in
    rw (← c.self.view_is) (read_at-kept nat_eq points_of eqb-true _ _ _ _ updates (rw has (sym (ap (λ (row : RowSlots). keys_of row) same))))
