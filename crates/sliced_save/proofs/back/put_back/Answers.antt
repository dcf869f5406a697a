use Rattle.std.proofs.Common.{Some, arith, length, refl, subst, ap}
use Rattle.std.proofs.lemmas.List.{length-append}
use Rattle.std.specs.List.{AllByRecursion}
use Rattle.chain_names.specs.Changes.{restored}
use Rattle.chain_names.specs.Limits.{HoldsName}
use Rattle.chain_names.specs.Points.{same_point, changed}
use Rattle.name_tables.proofs.ListLemmas.{all-less}
use Rattle.sliced_save.specs.Mirror.{coin_at}
use Rattle.sliced_save.proofs.LoopLemmas.{went_back}
use Rattle.sliced_save.proofs.back.put_back.Goals as goal

pub loop-held-preserved : goal.loop-held-preserved
loop-held-preserved g c =
    let split = c.in-Some.ensures.cases.0 in (
      all-less HoldsName c.in-Some.fewer.now c.in-Some.held.now (subst (AllByRecursion HoldsName) split c.loop-held.invariant.0),
      went_back restored (λ held coins. changed same_point coins held.at (Some held.coin)) (λ s. refl) (λ x xs s. refl) c.in-Some.held.now c.loop-held.rest.now c.in-Some.fewer.now _
          (coin_at c.loop-held.coins) (coin_at c.set.new.self) split c.in_ok-set.ensures.coins c.loop-held.invariant.1,
      omega (arith, simp length-append at (ap length split), c.in_ok-set.ensures.cost, c.loop-held.invariant.2),
    )
