use Rattle.std.proofs.Common.{◌++◌, ◌∷◌, [], List, ap, subst, sym, ◌∙◌, arith}
use Rattle.std.proofs.lemmas.List.{take_all}
use Rattle.std.specs.List.{IsDistinct}
use Rattle.nmc_base.specs.declared.hashes.OutPoint.{OutPoint}
use Rattle.chain_names.specs.Points.{same_point}
use Rattle.chain_names.specs.Tables.{row_points}
use Rattle.name_tables.proofs.ListLemmas.{take_next, item_there}
use Rattle.name_tables.proofs.tables.Tables.row_points.Goals as goal

pub loop-i-init : goal.loop-i-init
loop-i-init g c = (c.new-points.ensures.items, omega (arith, c.row_len-i-end.ensures.cost))

pub unreachable-requires : goal.unreachable-requires
unreachable-requires g c =
    item_there (row_points c.args.self.now.queue c.args.row) c.loop-i.i (omega (arith, c.row_len-i-end.ensures.len, c.loop-i-test.true)) (sym c.in_default.is ∙ c.row_item.ensures.item)

pub loop-i-preserved : goal.loop-i-preserved
loop-i-preserved g c = (
  c.in_ok-push.ensures.items ∙ ap (λ l. l ++ c.in-Some.at ∷ []) c.loop-i.invariant.0
      ∙ sym (take_next (row_points c.args.self.now.queue c.args.row) c.loop-i.i c.in-Some.at c.in-Some.ensures.item),
  omega (arith, c.loop-i.invariant.1, c.in-Some.ensures.cost),
)

pub returns-in_err-push-clause-cost : goal.returns-in_err-push-clause-cost
returns-in_err-push-clause-cost g c =
    omega (arith, c.loop-i.invariant.1, c.in-Some.ensures.cost, c.row_len-i-end.ensures.len, c.loop-i-test.true)

pub returns-clause-points : goal.returns-clause-points
returns-clause-points g c =
    c.loop-i.invariant.0 ∙ take_all c.loop-i.i (row_points c.args.self.now.queue c.args.row) (omega (arith, c.row_len-i-end.ensures.len, c.loop-i-test.false))

pub returns-clause-distinct : goal.returns-clause-distinct
returns-clause-distinct g c =
    subst (λ (points : List OutPoint). IsDistinct same_point points) (sym (returns-clause-points g c)) c.row_len-i-end.ensures.distinct

pub returns-clause-cost : goal.returns-clause-cost
returns-clause-cost g c = omega (arith, c.loop-i.invariant.1, c.row_len-i-end.ensures.len, c.loop-i.auto.i-end)
