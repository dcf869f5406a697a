use Rattle.std.proofs.Common.{◌+◌, ◌*◌, rules, ◌≡◌, map, subst, sym, arith}
use Rattle.block_grammar.specs.Transaction.{txid_of}
use Rattle.block_reader.specs.Rows.{seen_row}
use Rattle.chain_state.proofs.TransactionLemmas.{IsOn, more_ids, begins, front, went_on, declined, stopped, ended_at}
use Rattle.chain_state.specs.Cost.{owed_for, all_touched}
use Rattle.chain_state.proofs.CostLemmas.{begun_paid, more_paid}
use Rattle.chain_state.proofs.work.Work.apply_all.Goals as goal

pub loop-tx-init : goal.loop-tx-init
loop-tx-init g c = (
  search rules,
  search rules,
  subst (λ left. IsOn c.args.profile c.args.self.now c.args.self.now c.args.txs left 1) (sym c.into_iter-tx-iterator.ensures.into_iter_gives)
      (begins c.args.profile c.args.self.now c.args.txs c.requires.ready c.requires.fresh c.requires.outputs c.requires.count),
  subst (λ left. seen_row c.args.ids.now ≡ map txid_of left) (sym c.into_iter-tx-iterator.ensures.into_iter_gives) c.requires.ids,
  begun_paid c.args.steps.now c.args.txs c.into_iter-tx-iterator.result c.args.self.now.ops.items c.into_iter-tx-iterator.ensures.into_iter_gives c.requires.fresh,
)

pub apply-requires-clause-ready : goal.apply-requires-clause-ready
apply-requires-clause-ready g c = c.loop-tx.invariant.2.ready

pub apply-requires-clause-outputs : goal.apply-requires-clause-outputs
apply-requires-clause-outputs g c = (front _ _ _ _ _ _ _ _ c.in-Some.ensures.steps c.loop-tx.invariant.2).few.0

pub returns-in-Err-clause-applies : goal.returns-in-Err-clause-applies
returns-in-Err-clause-applies g c = stopped _ _ _ c.apply.new.self _ _ _ _ (front _ _ _ _ _ _ _ _ c.in-Some.ensures.steps c.loop-tx.invariant.2) c.in-Err.ensures.applies

pub returns-in-Ok-Some-clause-applies : goal.returns-in-Ok-Some-clause-applies
returns-in-Ok-Some-clause-applies g c = declined _ _ _ c.apply.new.self _ _ _ _ (front _ _ _ _ _ _ _ _ c.in-Some.ensures.steps c.loop-tx.invariant.2) (rw c.in-Ok-Some.field-0-is at c.in-Ok-Some.ensures.applies)

pub overflow_add-index : goal.overflow_add-index
overflow_add-index g c = omega (arith, (front _ _ _ _ _ _ _ _ c.in-Some.ensures.steps c.loop-tx.invariant.2).counted)

pub loop-tx-preserved : goal.loop-tx-preserved
loop-tx-preserved g c = (
  search rules,
  search rules,
  went_on _ _ _ c.apply.new.self _ _ _ _ (front _ _ _ _ _ _ _ _ c.in-Some.ensures.steps c.loop-tx.invariant.2) (rw c.in-Ok-None.field-0-is at c.in-Ok-None.ensures.applies),
  more_ids c.loop-tx.left.now c.loop-tx.tx-iterator _ _ c.in-Some.ensures.steps c.loop-tx.invariant.3,
  more_paid (c.args.steps.now + 8 * all_touched c.args.txs) (c.loop-tx.steps + owed_for c.loop-tx.self.ops.items) (c.apply.new.steps + owed_for c.apply.new.self.ops.items)
      c.loop-tx.tx-iterator _ _ c.in-Some.ensures.steps c.loop-tx.invariant.4 (rw c.in-Ok-None.field-0-is at c.in-Ok-None.ensures.cost),
)

pub returns-clause-applies : goal.returns-clause-applies
returns-clause-applies g c = ended_at _ _ _ _ _ _ c.in-None.ensures.steps.0 c.loop-tx.invariant.2

pub returns-clause-cost : goal.returns-clause-cost
returns-clause-cost g c = omega (arith, c.loop-tx.invariant.4)
