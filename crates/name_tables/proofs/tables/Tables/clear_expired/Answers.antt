use Rattle.std.proofs.Common.{[], refl, subst, arith}
use Rattle.name_tables.specs.Places.{AreFilledBut}
use Rattle.name_tables.proofs.ListLemmas.{front_item, shorter_of, nothing_of}
use Rattle.name_tables.proofs.RoomLemmas.{held-then}
use Rattle.name_tables.proofs.ClearLemmas.{coin_same, held_cleared}
use Rattle.name_tables.proofs.tables.Tables.clear_expired.Goals as goal

pub loop-rest-init : goal.loop-rest-init
loop-rest-init g c = (record { coins = refl; names = refl; queue = refl }, (λ filled. filled), omega arith)

pub loop-rest-smaller : goal.loop-rest-smaller
loop-rest-smaller g c = shorter_of c.loop-rest.rest.now c.in-len1-up.len_at_least

pub loop-rest-preserved : goal.loop-rest-preserved
loop-rest-preserved g c = (
  held-then _ c.loop-rest.self c.give_up.new.self c.loop-rest.invariant.0 (coin_same c.loop-rest.self c.give_up.new.self _ _ c.give_up.ensures.up),
  (λ filled.
      held_cleared c.loop-rest.self c.give_up.new.self c.held-item.result _ c.give_up.ensures.up
      (subst (λ held. AreFilledBut c.loop-rest.self [] held) (front_item c.loop-rest.rest.now c.held-item.result c.in-len1-up.len_at_least c.held-item.is)
      (c.loop-rest.invariant.1 filled))),
  omega (arith, c.loop-rest.invariant.2, c.give_up.ensures.cost, shorter_of c.loop-rest.rest.now c.in-len1-up.len_at_least),
)

pub returns-clause-filled : goal.returns-clause-filled
returns-clause-filled g c = λ filled.
    subst (λ held. AreFilledBut c.loop-rest.self [] held) (nothing_of c.loop-rest.rest.now c.in_default.len_below) (c.loop-rest.invariant.1 filled)

pub returns-clause-cost : goal.returns-clause-cost
returns-clause-cost g c = omega (arith, c.loop-rest.invariant.2)
