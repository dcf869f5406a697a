use Rattle.std.proofs.Common.{◌∷◌, [], ◌++◌, ◌∙◌, length, refl, ap, sym, arith, length-append}
use Rattle.std.proofs.lemmas.Grind.{common_steps}
use Rattle.name_tables.proofs.ListLemmas.{one_more}
use Rattle.chain_state.proofs.UndoneLemmas.{popped_work, went_back, gone_back}
use Rattle.chain_state.proofs.work.Work.undo_all.Goals as goal

pub loop-op-init : goal.loop-op-init
loop-op-init g c = (record { before = refl; height = refl; work = c.requires }, omega arith, omega arith)

pub undo-requires : goal.undo-requires
undo-requires g c = popped_work c.loop-op.self c.pop.new.self c.into_op.result (c.in-Some.ensures.some ∙ ap (λ op. c.pop.new.self.items ++ op ∷ []) (sym c.into_op.ensures)) c.loop-op.invariant.0.work

pub loop-op-smaller : goal.loop-op-smaller
loop-op-smaller g c =
    grind (arith, common_steps, ap length c.undo.ensures.back.ops_are, ap length c.in-Some.ensures.some, length-append c.pop.new.self.items (c.in-Some.op ∷ []))

pub loop-op-preserved : goal.loop-op-preserved
loop-op-preserved g c = (
  went_back _ c.loop-op.self _ c.undo.new.self c.into_op.result c.pop.new.self.items (c.in-Some.ensures.some ∙ ap (λ op. c.pop.new.self.items ++ op ∷ []) (sym c.into_op.ensures)) c.loop-op.invariant.0 c.undo.ensures.back refl,
  omega (arith, c.loop-op.invariant.1, c.undo.ensures.emptied, ap length c.undo.ensures.back.ops_are, one_more _ _ _ c.in-Some.ensures.some),
  omega (arith, c.loop-op.invariant.2, c.undo.ensures.cost, ap length c.undo.ensures.back.ops_are, one_more _ _ _ c.in-Some.ensures.some),
)

pub returns-clause-back : goal.returns-clause-back
returns-clause-back g c = gone_back _ c.loop-op.self c.pop.new.self c.in_default.ensures.none c.in_default.ensures.same c.loop-op.invariant.0

pub returns-clause-emptied : goal.returns-clause-emptied
returns-clause-emptied g c = omega (arith, c.loop-op.invariant.1)

pub returns-clause-cost : goal.returns-clause-cost
returns-clause-cost g c = omega (arith, c.loop-op.invariant.2)
