use Rattle.std.proofs.Common.{arith, length, refl, subst, ap}
use Rattle.std.proofs.lemmas.List.{length-append}
use Rattle.std.specs.List.{AllByRecursion}
use Rattle.chain_names.specs.Changes.{back_op, back_ops}
use Rattle.chain_names.specs.Limits.{IsWithinLimitsOp}
use Rattle.name_tables.proofs.ListLemmas.{all-less}
use Rattle.sliced_save.specs.Mirror.{maps_at}
use Rattle.sliced_save.proofs.LoopLemmas.{went_back}
use Rattle.sliced_save.proofs.back.undo_ops.Goals as goal

pub loop-op-preserved : goal.loop-op-preserved
loop-op-preserved g c =
    let split = c.in-Some.ensures.cases.0 in (
      all-less IsWithinLimitsOp c.in-Some.fewer.now c.in-Some.op.now (subst (AllByRecursion IsWithinLimitsOp) split c.loop-op.invariant.0),
      went_back back_ops back_op (λ s. refl) (λ x xs s. refl) c.in-Some.op.now c.loop-op.rest.now c.in-Some.fewer.now _
          (maps_at c.loop-op.coins c.loop-op.names) (maps_at c.undo_op.new.coins c.undo_op.new.names) split c.in_ok-undo_op.ensures.maps c.loop-op.invariant.1,
      omega (arith, simp length-append at (ap length split), c.in_ok-undo_op.ensures.cost, c.loop-op.invariant.2),
    )
