use Rattle.std.proofs.Common.{◌≡◌, false, Some, nat_eq, is_some, sym, ap}
use Rattle.std.proofs.lemmas.Bool.{eqb-true}
use Rattle.std.specs.Map.{lookup}
use Rattle.chain_names.specs.Tables.{row_of}
use Rattle.chain_names.proofs.Changed.{read_at-kept}
use Rattle.expiry_queue.specs.OneRow.{RowSlots}
use Rattle.expiry_queue.proofs.RowReadings.{places_of, queued_in-changed}
use Rattle.expiry_queue.proofs.RowReadings.{points_of}
use Rattle.expiry_queue.proofs.queue.Queue.take.Goals as goal

pub returns-clause-queued : goal.returns-clause-queued
returns-clause-queued g c =
    let has : lookup (nat_eq c.args.height) c.self.inside.rows.entries ≡ Some c.in-Some.row.now = sym c.in-Some.ensures.value in
    let here = sym (ap is_some c.in-Some.ensures.value) in
    let updates = ((c.get_mut.follows.holds c.take.new.self).3 here).0 in
    rw (← c.self.view_is) (queued_in-changed c.self.inside.rows.entries _ c.args.height _ _ _ (λ (row : RowSlots). false) updates (ap row_of has) c.take.ensures.queued)

pub returns-clause-places : goal.returns-clause-places
returns-clause-places g c =
    let has : lookup (nat_eq c.args.height) c.self.inside.rows.entries ≡ Some c.in-Some.row.now = sym c.in-Some.ensures.value in
    let here = sym (ap is_some c.in-Some.ensures.value) in
    let updates = ((c.get_mut.follows.holds c.take.new.self).3 here).0 in
    rw (← c.self.view_is) (read_at-kept nat_eq places_of eqb-true _ _ _ _ updates (rw has (sym c.take.ensures.places)))

pub returns-clause-list : goal.returns-clause-list
returns-clause-list g c =
    let has : lookup (nat_eq c.args.height) c.self.inside.rows.entries ≡ Some c.in-Some.row.now = sym c.in-Some.ensures.value in
    let here = sym (ap is_some c.in-Some.ensures.value) in
    let updates = ((c.get_mut.follows.holds c.take.new.self).3 here).0 in
    rw (← c.self.view_is) (read_at-kept nat_eq points_of eqb-true _ _ _ _ updates (rw has (sym c.take.ensures.list)))
