use Rattle.std.proofs.Common.{refl, sym, arith}
use Rattle.chain_names.specs.Verdict.{commits, opens, updates}
use Rattle.chain_names.specs.Tables.{names_in}
use Rattle.std.proofs.Common.{le_trans}
use Rattle.chain_names.specs.State.{IsUpTo}
use Rattle.chain_names.proofs.HistoryLemmas.{entry_has}
use Rattle.chain_state.proofs.CostLemmas.{plain_cost, one_operation, paid, paid_commitment, with_spent_count, commits_outputs, opens_outputs, opens_inputs, updates_outputs, updates_inputs}
use Rattle.chain_state.proofs.VerdictLemmas.{applied, applied_with}
use Rattle.chain_state.proofs.work.Work.apply.Goals as goal

pub invariant_of-view : goal.invariant_of-view
invariant_of-view g c = record {
  low_names = λ name item e.
      le_trans (entry_has (IsUpTo c.args.self.now.height) (names_in c.args.self.now.tables.names name) item (c.requires.ready.standing.item_heights name) e) c.requires.ready.low;
}

pub returns-in_ok-commit_to-in-New-clause-applies : goal.returns-in_ok-commit_to-in-New-clause-applies
returns-in_ok-commit_to-in-New-clause-applies g c =
    applied c.args.profile c.args.self.now c.commit_to.new.self c.args.tx.now c.requires.ready (commits c.in-New.hash.0 c.in-New.output) (sym c.in-New.ensures.verdict) refl
    (applied_with c.args.self.now c.commit_to.new.self c.args.tx.now c.args.txid c.requires.id (commits c.in-New.hash.0 c.in-New.output) c.in_ok-commit_to-in-New.ensures.ok)

pub returns-in_ok-open-in-First-clause-applies : goal.returns-in_ok-open-in-First-clause-applies
returns-in_ok-open-in-First-clause-applies g c =
    applied c.args.profile c.args.self.now c.«open».new.self c.args.tx.now c.requires.ready (opens c.in-First.name.now c.in-First.value.now c.in-First.output c.in-First.spent) (sym c.in-First.ensures.verdict) refl
    (applied_with c.args.self.now c.«open».new.self c.args.tx.now c.args.txid c.requires.id (opens c.in-First.name.now c.in-First.value.now c.in-First.output c.in-First.spent) c.in_ok-open-in-First.ensures.ok)

pub returns-in_ok-update-in-Update-clause-applies : goal.returns-in_ok-update-in-Update-clause-applies
returns-in_ok-update-in-Update-clause-applies g c =
    applied c.args.profile c.args.self.now c.update.new.self c.args.tx.now c.requires.ready (updates c.in-Update.name.now c.in-Update.value.now c.in-Update.output c.in-Update.spent) (sym c.in-Update.ensures.verdict) refl
    (applied_with c.args.self.now c.update.new.self c.args.tx.now c.args.txid c.requires.id (updates c.in-Update.name.now c.in-Update.value.now c.in-Update.output c.in-Update.spent) c.in_ok-update-in-Update.ensures.ok)

pub returns-in-Plain-clause-cost : goal.returns-in-Plain-clause-cost
returns-in-Plain-clause-cost g c =
    omega (arith, plain_cost c.args.tx.now c.args.steps.now c.check.new.steps c.in-Plain.ensures.cost c.in-Plain.ensures.cost_of_inputs)

pub returns-in_ok-commit_to-in-New-clause-cost : goal.returns-in_ok-commit_to-in-New-clause-cost
returns-in_ok-commit_to-in-New-clause-cost g c =
    paid_commitment c.args.tx.now c.args.steps.now c.check.new.steps c.commit_to.new.steps c.args.self.now.ops.items c.commit_to.new.self.ops.items
    (commits_outputs c.in-New.ensures.means) c.in-New.ensures.cost c.in_ok-commit_to-in-New.ensures.cost (one_operation _ _ _ c.in_ok-commit_to-in-New.ensures.ok.ops (omega arith))

pub returns-in_ok-open-in-First-clause-cost : goal.returns-in_ok-open-in-First-clause-cost
returns-in_ok-open-in-First-clause-cost g c =
    paid c.args.tx.now c.args.steps.now c.check.new.steps c.«open».new.steps c.args.self.now.ops.items c.«open».new.self.ops.items
    (omega (arith, opens_inputs c.in-First.ensures.means, opens_outputs c.in-First.ensures.means)) (omega (arith, opens_outputs c.in-First.ensures.means, c.in-First.ensures.cost)) c.in_ok-open-in-First.ensures.cost
    (one_operation _ _ _ c.in_ok-open-in-First.ensures.ok.ops (with_spent_count _ _))

pub returns-in_ok-update-in-Update-clause-cost : goal.returns-in_ok-update-in-Update-clause-cost
returns-in_ok-update-in-Update-clause-cost g c =
    paid c.args.tx.now c.args.steps.now c.check.new.steps c.update.new.steps c.args.self.now.ops.items c.update.new.self.ops.items
    (omega (arith, updates_inputs c.in-Update.ensures.means, updates_outputs c.in-Update.ensures.means)) (omega (arith, updates_outputs c.in-Update.ensures.means, c.in-Update.ensures.cost)) c.in_ok-update-in-Update.ensures.cost
    (one_operation _ _ _ c.in_ok-update-in-Update.ensures.ok.ops (with_spent_count _ _))
