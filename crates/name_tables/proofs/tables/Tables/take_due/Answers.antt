use Rattle.std.proofs.Common.{sym, arith}
use Rattle.name_tables.proofs.ExpiryLemmas.{begins_taking, took, passed_by, none_queued, room_for_one, taken_all}
use Rattle.name_tables.proofs.ListLemmas.{front_of, shorter_of, nothing_of, one_more}
use Rattle.name_tables.proofs.tables.Tables.take_due.Goals as goal

pub loop-rest-init : goal.loop-rest-init
loop-rest-init g c = (
  begins_taking c.args.self.now c.args.row c.args.points.now c.args.expired.now c.requires.queue c.requires.none c.requires.room c.requires.rising,
  omega arith,
)

pub take_coin-requires : goal.take_coin-requires
take_coin-requires g c = record { queue = c.loop-rest.invariant.0.queue }

pub push-requires : goal.push-requires
push-requires g c = room_for_one c.loop-rest.rest.now _ c.in-len1-up.len_at_least c.loop-rest.invariant.0.room

pub unreachable-requires : goal.unreachable-requires
unreachable-requires g c =
    none_queued c.loop-rest.self c.args.row _ c.loop-rest.invariant.0.queue c.in-None.ensures.value (sym c.if-has.ensures.value)

pub loop-rest-smaller-in-Some : goal.loop-rest-smaller-in-Some
loop-rest-smaller-in-Some g c = shorter_of c.loop-rest.rest.now c.in-len1-up.len_at_least

pub loop-rest-preserved-in-Some : goal.loop-rest-preserved-in-Some
loop-rest-preserved-in-Some g c = (
  took _ _ _ _ _ _ (front_of c.loop-rest.rest.now _ c.in-len1-up.len_at_least) c.loop-rest.invariant.0
      (record {
        coin = c.in-Some.coin;
        queued = sym c.if-has.ensures.value;
        held = c.in-Some.ensures.value;
        takes = c.in-Some.ensures.taken;
        items = c.push.ensures.items;
        spare = c.push.ensures.spare;
      }),
  omega (arith, c.loop-rest.invariant.1, c.if-has.ensures.cost, c.in-Some.ensures.cost, one_more _ _ _ c.push.ensures.items, shorter_of c.loop-rest.rest.now c.in-len1-up.len_at_least),
)

pub loop-rest-smaller : goal.loop-rest-smaller
loop-rest-smaller g c = shorter_of c.loop-rest.rest.now c.in-len1-up.len_at_least

pub loop-rest-preserved : goal.loop-rest-preserved
loop-rest-preserved g c = (
  passed_by _ _ _ _ _ _ (front_of c.loop-rest.rest.now _ c.in-len1-up.len_at_least) c.loop-rest.invariant.0 (sym c.if-has.ensures.value),
  omega (arith, c.loop-rest.invariant.1, c.if-has.ensures.cost, shorter_of c.loop-rest.rest.now c.in-len1-up.len_at_least),
)

pub returns-clause-due : goal.returns-clause-due
returns-clause-due g c = taken_all _ _ _ _ (nothing_of c.loop-rest.rest.now c.in_default.len_below) c.loop-rest.invariant.0

pub returns-clause-cost : goal.returns-clause-cost
returns-clause-cost g c = omega (arith, c.loop-rest.invariant.1)
