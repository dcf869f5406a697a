use Rattle.std.proofs.Common.{ap, sym, ◌∙◌, arith}
use Rattle.nmc_base.specs.Expiry.{due_height}
use Rattle.chain_state.proofs.ChainLemmas.{next_is}
use Rattle.nmc_base.specs.Roomy.{Roomy}
use Rattle.chain_names.specs.declared.coin.HeldCoin.{HeldCoin}
use Rattle.chain_state.proofs.WholeLemmas.{finished, finished_none}
use Rattle.chain_state.proofs.CostLemmas.{row_count}
use Rattle.chain_state.proofs.work.Work.finish.Goals as goal

pub returns-in-None-clause-ok : goal.returns-in-None-clause-ok
returns-in-None-clause-ok g c =
    finished_none c.args.profile c.args.self c.new-expired.result c.requires (ap (due_height c.args.profile) (next_is c.args.self.height) ∙ sym c.in-None.ensures.due) (ap (λ (l : Roomy HeldCoin). l.items) c.new-expired.ensures)

pub returns-in-Ok-clause-ok : goal.returns-in-Ok-clause-ok
returns-in-Ok-clause-ok g c =
    finished c.args.profile c.args.self c.expire.new.self c.in-Ok.expired (record { ready = c.requires; row = c.in-Some.row; due = ap (due_height c.args.profile) (next_is c.args.self.height) ∙ sym c.in-Some.ensures.due; gone = c.in-Ok.ensures.ok })

pub returns-in-Ok-clause-cost : goal.returns-in-Ok-clause-cost
returns-in-Ok-clause-cost g c =
    omega (arith, c.in-Ok.ensures.cost, row_count c.args.self c.in-Some.row c.expire.new.self c.in-Ok.expired.items c.in-Ok.ensures.ok c.requires.work c.requires.none_empty c.in-Ok.ensures.distinct)
