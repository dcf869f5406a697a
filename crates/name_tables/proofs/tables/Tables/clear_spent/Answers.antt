use Rattle.std.proofs.Common.{refl, subst, arith}
use Rattle.name_tables.specs.Places.{AreFilledBut}
use Rattle.name_tables.proofs.ListLemmas.{front_item, shorter_of, nothing_of}
use Rattle.name_tables.proofs.RoomLemmas.{held-then}
use Rattle.name_tables.proofs.ClearLemmas.{op_same, op_cleared}
use Rattle.name_tables.proofs.tables.Tables.clear_spent.Goals as goal

pub loop-rest-init : goal.loop-rest-init
loop-rest-init g c = (record { coins = refl; names = refl; queue = refl }, (λ expired filled. filled), omega arith)

pub loop-rest-smaller : goal.loop-rest-smaller
loop-rest-smaller g c = shorter_of c.loop-rest.rest.now c.in-len1-up.len_at_least

pub loop-rest-preserved : goal.loop-rest-preserved
loop-rest-preserved g c = (
  held-then _ c.loop-rest.self c.give_up_spent.new.self c.loop-rest.invariant.0 (op_same c.loop-rest.self c.give_up_spent.new.self c.op-item.result c.give_up_spent.ensures.up),
  (λ expired filled.
      op_cleared c.loop-rest.self c.give_up_spent.new.self c.op-item.result _ expired c.give_up_spent.ensures.up
      (subst (λ ops. AreFilledBut c.loop-rest.self ops expired) (front_item c.loop-rest.rest.now c.op-item.result c.in-len1-up.len_at_least c.op-item.is)
      (c.loop-rest.invariant.1 expired filled))),
  omega (arith, c.loop-rest.invariant.2, c.give_up_spent.ensures.cost, shorter_of c.loop-rest.rest.now c.in-len1-up.len_at_least),
)

pub returns-clause-filled : goal.returns-clause-filled
returns-clause-filled g c = λ expired filled.
    subst (λ ops. AreFilledBut c.loop-rest.self ops expired) (nothing_of c.loop-rest.rest.now c.in_default.len_below) (c.loop-rest.invariant.1 expired filled)

pub returns-clause-cost : goal.returns-clause-cost
returns-clause-cost g c = omega (arith, c.loop-rest.invariant.2)
