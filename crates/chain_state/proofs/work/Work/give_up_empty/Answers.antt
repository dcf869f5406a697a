use Rattle.std.proofs.Common.{◌∷◌, [], length, ap, arith, length-append}
use Rattle.std.proofs.lemmas.Grind.{common_steps}
use Rattle.name_tables.proofs.ListLemmas.{one_more}
use Rattle.chain_state.proofs.PlaceLemmas.{gives_up, gave_up, given_up}
use Rattle.chain_state.proofs.work.Work.give_up_empty.Goals as goal

pub loop-at-init : goal.loop-at-init
loop-at-init g c = (gives_up c.args.self.now c.requires.work c.requires.none_left, omega arith)

pub loop-at-smaller : goal.loop-at-smaller
loop-at-smaller g c = grind (arith, common_steps, ap length c.in-Some.ensures.some, length-append c.pop.new.self.items (c.in-Some.at ∷ []))

pub loop-at-preserved : goal.loop-at-preserved
loop-at-preserved g c = (
  gave_up _ c.loop-at.self c.unplace.new.self c.unplace-in-Some.new.self c.pop.new.self
      (record {
        at = c.in-Some.at;
        were = c.in-Some.ensures.some;
        coins_same = c.unplace.ensures.coins;
        places = c.unplace.ensures.places;
        queued_same = c.unplace-in-Some.ensures.queued;
        rows = c.unplace-in-Some.ensures.places;
      })
      c.loop-at.invariant.0,
  omega (arith, c.loop-at.invariant.1, c.unplace.ensures.cost, c.unplace-in-Some.ensures.cost, one_more _ _ _ c.in-Some.ensures.some),
)

pub returns-clause-same : goal.returns-clause-same
returns-clause-same g c = c.loop-at.invariant.0.same

pub returns-clause-filled : goal.returns-clause-filled
returns-clause-filled g c = given_up _ c.loop-at.self c.in_default.ensures.none c.loop-at.invariant.0

pub returns-clause-cost : goal.returns-clause-cost
returns-clause-cost g c = omega (arith, c.loop-at.invariant.1)
