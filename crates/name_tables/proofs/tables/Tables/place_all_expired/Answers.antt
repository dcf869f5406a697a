use Rattle.std.proofs.Common.{subst, arith}
use Rattle.chain_names.specs.Expired.{is_held_at}
use Rattle.name_tables.specs.Places.{is_queued_at}
use Rattle.name_tables.proofs.ListLemmas.{front_item, shorter_of, nothing_of}
use Rattle.name_tables.proofs.RoomLemmas.{IsPlacing, begins_placing, went_placing, places-first, ended_placing, all_placed}
use Rattle.name_tables.proofs.tables.Tables.place_all_expired.Goals as goal

pub loop-rest-init : goal.loop-rest-init
loop-rest-init g c = (begins_placing is_held_at is_queued_at c.args.self.now c.args.expired.now, omega arith)

pub loop-rest-smaller : goal.loop-rest-smaller
loop-rest-smaller g c = shorter_of c.loop-rest.rest.now c.in-len1-up.len_at_least

pub loop-rest-preserved : goal.loop-rest-preserved
loop-rest-preserved g c = (
  went_placing is_held_at is_queued_at c.args.self.now c.loop-rest.self c.args.expired.now _ c.held-item.result
      (subst (IsPlacing is_held_at is_queued_at c.args.self.now c.loop-rest.self c.args.expired.now) (front_item c.loop-rest.rest.now c.held-item.result c.in-len1-up.len_at_least c.held-item.is) c.loop-rest.invariant.0)
      (record { next = c.place_coin.new.self; only = c.in-Ok.ensures.only; here = c.in-Ok.ensures.ok }),
  omega (arith, c.loop-rest.invariant.1, c.in-Ok.ensures.cost, shorter_of c.loop-rest.rest.now c.in-len1-up.len_at_least),
)

pub returns-in-Err-clause-only : goal.returns-in-Err-clause-only
returns-in-Err-clause-only g c =
    let placing = subst (IsPlacing is_held_at is_queued_at c.args.self.now c.loop-rest.self c.args.expired.now) (front_item c.loop-rest.rest.now c.held-item.result c.in-len1-up.len_at_least c.held-item.is) c.loop-rest.invariant.0 in
    placing.only c.place_coin.new.self (places-first is_held_at is_queued_at c.loop-rest.self c.place_coin.new.self c.held-item.result _ c.in-Err.ensures.only)

pub returns-in-Err-clause-cost : goal.returns-in-Err-clause-cost
returns-in-Err-clause-cost g c = omega (arith, c.loop-rest.invariant.1, c.in-Err.ensures.cost, shorter_of c.loop-rest.rest.now c.in-len1-up.len_at_least)

pub returns-clause-only : goal.returns-clause-only
returns-clause-only g c =
    ended_placing is_held_at is_queued_at c.args.self.now c.loop-rest.self c.args.expired.now (subst (IsPlacing is_held_at is_queued_at c.args.self.now c.loop-rest.self c.args.expired.now) (nothing_of c.loop-rest.rest.now c.in_default.len_below) c.loop-rest.invariant.0)

pub returns-clause-ok : goal.returns-clause-ok
returns-clause-ok g c =
    all_placed is_held_at is_queued_at c.args.self.now c.loop-rest.self c.args.expired.now (subst (IsPlacing is_held_at is_queued_at c.args.self.now c.loop-rest.self c.args.expired.now) (nothing_of c.loop-rest.rest.now c.in_default.len_below) c.loop-rest.invariant.0)

pub returns-clause-cost : goal.returns-clause-cost
returns-clause-cost g c = omega (arith, c.loop-rest.invariant.1)
