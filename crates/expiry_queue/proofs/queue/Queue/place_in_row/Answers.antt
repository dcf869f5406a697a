use Rattle.std.proofs.Common.{◌≡◌, true, Some, nat_eq, is_some, sym, ap, ◌∙◌}
use Rattle.std.proofs.lemmas.Bool.{eqb-true}
use Rattle.std.proofs.lemmas.Result.{on_ok_weaker, on_err_weaker}
use Rattle.std.specs.Map.{lookup, set_value}
use Rattle.chain_names.specs.Tables.{row_of}
use Rattle.chain_names.proofs.Changed.{read_at-kept, set_value-same}
use Rattle.expiry_queue.specs.OneRow.{RowSlots}
use Rattle.expiry_queue.proofs.RowReadings.{queued_of, queue_places-changed}
use Rattle.chain_names.specs.Points.{same_point}
use Rattle.indexmap.specs.IndexSet.{insert_key}
use Rattle.expiry_queue.proofs.RowReadings.{row_points-changed}
use Rattle.expiry_queue.proofs.queue.Queue.place_in_row.Goals as goal

pub returns-clause-queued : goal.returns-clause-queued
returns-clause-queued c =
    let has : lookup (nat_eq c.args.height) c.self.inside.rows.entries ≡ Some c.in-Some.row.now = sym c.in-Some.ensures.value in
    let here = sym (ap is_some c.in-Some.ensures.value) in
    let updates = ((c.get_mut.follows.holds c.place.new.self).3 here).0 in
    rw (← c.self.view_is) (read_at-kept nat_eq queued_of eqb-true _ _ _ _ updates (rw has (sym c.place.ensures.queued)))

pub returns-clause-ok : goal.returns-clause-ok
returns-clause-ok c =
    let has : lookup (nat_eq c.args.height) c.self.inside.rows.entries ≡ Some c.in-Some.row.now = sym c.in-Some.ensures.value in
    let here = sym (ap is_some c.in-Some.ensures.value) in
    let updates = ((c.get_mut.follows.holds c.place.new.self).3 here).0 in
    on_ok_weaker c.place.result (λ placed.
    rw (← c.self.view_is) (queue_places-changed c.self.inside.rows.entries _ c.args.height _ _ _ (λ (row : RowSlots). true) updates (ap row_of has) placed))
    c.place.ensures.ok

pub returns-clause-err : goal.returns-clause-err
returns-clause-err c =
    let wrote = c.get_mut.follows.holds c.place.new.self in
    on_err_weaker c.place.result (λ same.
    rw (← c.self.view_is) (wrote.0 ∙ ap (set_value (nat_eq c.args.height) c.self.inside.rows.entries) same
    ∙ set_value-same (nat_eq c.args.height) c.self.inside.rows.entries _ (sym c.in-Some.ensures.value)))
    c.place.ensures.err

pub returns-clause-list : goal.returns-clause-list
returns-clause-list c =
    let has : lookup (nat_eq c.args.height) c.self.inside.rows.entries ≡ Some c.in-Some.row.now = sym c.in-Some.ensures.value in
    let here = sym (ap is_some c.in-Some.ensures.value) in
    let updates = ((c.get_mut.follows.holds c.place.new.self).3 here).0 in
    on_ok_weaker c.place.result (λ placed.
    rw (← c.self.view_is) (row_points-changed c.self.inside.rows.entries _ c.args.height _ _ (λ points. insert_key same_point points c.args.at) updates (ap row_of has) placed))
    c.place.ensures.list
