use Rattle.std.proofs.Common.{◌∷◌, [], length, ap, subst, arith, length-append}
use Rattle.std.proofs.lemmas.Grind.{common_steps}
use Rattle.name_tables.proofs.ListLemmas.{one_more}
use Rattle.name_tables.proofs.RestoreLemmas.{IsReturning, begins_returning, can_here, free_of, row_of, returned, all_returned}
use Rattle.name_tables.proofs.tables.Tables.restore.Goals as goal

pub loop-at-init : goal.loop-at-init
loop-at-init g c = (
  c.requires.expired.0,
  begins_returning c.args.self.now c.requires.expired.0 c.args.expired.items c.requires.queue c.requires.expired.1,
  omega arith,
)

pub put_coin-requires-clause-queue : goal.put_coin-requires-clause-queue
put_coin-requires-clause-queue g c = c.loop-at.invariant.1.queue

pub put_coin-requires-clause-free : goal.put_coin-requires-clause-free
put_coin-requires-clause-free g c =
    free_of c.loop-at.self c.loop-at.invariant.0 c.in-Some.field-0 (can_here _ c.loop-at.self c.loop-at.invariant.0 _ c.pop.new.self.items c.in-Some.field-0 (subst (IsReturning c.args.self.now c.loop-at.self c.loop-at.invariant.0 c.args.expired.items) c.in-Some.ensures.some c.loop-at.invariant.1))

pub put_coin-requires-clause-place : goal.put_coin-requires-clause-place
put_coin-requires-clause-place g c = (can_here _ c.loop-at.self c.loop-at.invariant.0 _ c.pop.new.self.items c.in-Some.field-0 (subst (IsReturning c.args.self.now c.loop-at.self c.loop-at.invariant.0 c.args.expired.items) c.in-Some.ensures.some c.loop-at.invariant.1)).place

pub put_coin-requires-clause-row : goal.put_coin-requires-clause-row
put_coin-requires-clause-row g c =
    row_of c.loop-at.self c.loop-at.invariant.0 c.in-Some.field-0 (can_here _ c.loop-at.self c.loop-at.invariant.0 _ c.pop.new.self.items c.in-Some.field-0 (subst (IsReturning c.args.self.now c.loop-at.self c.loop-at.invariant.0 c.args.expired.items) c.in-Some.ensures.some c.loop-at.invariant.1))

pub loop-at-smaller : goal.loop-at-smaller
loop-at-smaller g c = grind (arith, common_steps, ap length c.in-Some.ensures.some, length-append c.pop.new.self.items (c.in-Some.field-0 ∷ []))

pub loop-at-preserved : goal.loop-at-preserved
loop-at-preserved g c = (
  c.loop-at.invariant.0,
  returned _ c.loop-at.self c.loop-at.invariant.0 _ c.pop.new.self.items c.in-Some.field-0
      (subst (IsReturning c.args.self.now c.loop-at.self c.loop-at.invariant.0 c.args.expired.items) c.in-Some.ensures.some c.loop-at.invariant.1) c.put_coin.new.self c.put_coin.ensures.put,
  omega (arith, c.loop-at.invariant.2, c.put_coin.ensures.cost, one_more _ _ _ c.in-Some.ensures.some),
)

pub returns-clause-back : goal.returns-clause-back
returns-clause-back g c = all_returned _ _ _ _ _ c.in_default.ensures.none c.loop-at.invariant.1

pub returns-clause-cost : goal.returns-clause-cost
returns-clause-cost g c = omega (arith, c.loop-at.invariant.2)
