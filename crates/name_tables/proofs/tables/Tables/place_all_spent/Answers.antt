use Rattle.std.proofs.Common.{subst, arith}
use Rattle.name_tables.specs.Places.{spends, spends_at}
use Rattle.name_tables.proofs.ListLemmas.{front_item, shorter_of, nothing_of}
use Rattle.name_tables.proofs.RoomLemmas.{IsPlacing, begins_placing, went_placing, places-first, ended_placing, all_placed}
use Rattle.name_tables.proofs.tables.Tables.place_all_spent.Goals as goal

pub loop-rest-init : goal.loop-rest-init
loop-rest-init g c = (begins_placing spends spends_at c.args.self.now c.args.ops.now, omega arith)

pub loop-rest-smaller : goal.loop-rest-smaller
loop-rest-smaller g c = shorter_of c.loop-rest.rest.now c.in-len1-up.len_at_least

pub loop-rest-preserved : goal.loop-rest-preserved
loop-rest-preserved g c = (
  went_placing spends spends_at c.args.self.now c.loop-rest.self c.args.ops.now _ c.op-item.result
      (subst (IsPlacing spends spends_at c.args.self.now c.loop-rest.self c.args.ops.now) (front_item c.loop-rest.rest.now c.op-item.result c.in-len1-up.len_at_least c.op-item.is) c.loop-rest.invariant.0)
      (record { next = c.place_spent.new.self; only = c.in-Ok.ensures.only; here = c.in-Ok.ensures.ok }),
  omega (arith, c.loop-rest.invariant.1, c.in-Ok.ensures.cost, shorter_of c.loop-rest.rest.now c.in-len1-up.len_at_least),
)

pub returns-in-Err-clause-only : goal.returns-in-Err-clause-only
returns-in-Err-clause-only g c =
    let placing = subst (IsPlacing spends spends_at c.args.self.now c.loop-rest.self c.args.ops.now) (front_item c.loop-rest.rest.now c.op-item.result c.in-len1-up.len_at_least c.op-item.is) c.loop-rest.invariant.0 in
    placing.only c.place_spent.new.self (places-first spends spends_at c.loop-rest.self c.place_spent.new.self c.op-item.result _ c.in-Err.ensures.only)

pub returns-in-Err-clause-cost : goal.returns-in-Err-clause-cost
returns-in-Err-clause-cost g c = omega (arith, c.loop-rest.invariant.1, c.in-Err.ensures.cost, shorter_of c.loop-rest.rest.now c.in-len1-up.len_at_least)

pub returns-clause-only : goal.returns-clause-only
returns-clause-only g c =
    ended_placing spends spends_at c.args.self.now c.loop-rest.self c.args.ops.now (subst (IsPlacing spends spends_at c.args.self.now c.loop-rest.self c.args.ops.now) (nothing_of c.loop-rest.rest.now c.in_default.len_below) c.loop-rest.invariant.0)

pub returns-clause-ok : goal.returns-clause-ok
returns-clause-ok g c =
    all_placed spends spends_at c.args.self.now c.loop-rest.self c.args.ops.now (subst (IsPlacing spends spends_at c.args.self.now c.loop-rest.self c.args.ops.now) (nothing_of c.loop-rest.rest.now c.in_default.len_below) c.loop-rest.invariant.0)

pub returns-clause-cost : goal.returns-clause-cost
returns-clause-cost g c = omega (arith, c.loop-rest.invariant.1)
