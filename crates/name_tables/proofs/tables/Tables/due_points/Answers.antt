use Rattle.std.proofs.Common.{length, subst, ap, sym, ◌∙◌, arith}
use Rattle.std.specs.List.{list_any, IsDistinct}
use Rattle.std.proofs.lemmas.List.Sorted.{list_any-IsPermutation, length_permutation}
use Rattle.std.proofs.lemmas.Map.Keys.{IsDistinct-IsPermutation}
use Rattle.chain_names.specs.Points.{same_point}
use Rattle.chain_names.proofs.Points.{same_point-comm}
use Rattle.name_tables.proofs.ExpiryLemmas.{queued_listed}
use Rattle.name_tables.proofs.OrderLemmas.{rising}
use Rattle.name_tables.proofs.tables.Tables.due_points.Goals as goal

pub returns-clause-all : goal.returns-clause-all
returns-clause-all g c = λ point queued.
    queued_listed c.args.self.now.queue c.args.row c.sort.new.self.items point
    (ap (λ l. list_any (same_point point) l) (sym c.in_ok-points.ensures.points)
    ∙ list_any-IsPermutation (same_point point) c.in_ok-points.points.items c.sort.new.self.items c.in_ok-sort.ensures.permutation)
    queued

pub returns-clause-rising : goal.returns-clause-rising
returns-clause-rising g c =
    rising c.sort.new.self.items c.in_ok-sort.ensures.sorted
    (IsDistinct-IsPermutation same_point same_point-comm c.in_ok-points.points.items c.sort.new.self.items c.in_ok-sort.ensures.permutation c.in_ok-points.ensures.distinct)

pub returns-clause-count : goal.returns-clause-count
returns-clause-count g c = length_permutation c.in_ok-points.points.items c.sort.new.self.items c.in_ok-sort.ensures.permutation ∙ ap length c.in_ok-points.ensures.points

pub returns-clause-distinct : goal.returns-clause-distinct
returns-clause-distinct g c = subst (IsDistinct same_point) c.in_ok-points.ensures.points c.in_ok-points.ensures.distinct

pub returns-clause-cost : goal.returns-clause-cost
returns-clause-cost g c = omega (arith, c.in_ok-points.ensures.cost, length_permutation c.in_ok-points.points.items c.sort.new.self.items c.in_ok-sort.ensures.permutation)
