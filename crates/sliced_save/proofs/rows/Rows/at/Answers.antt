use Rattle.std.proofs.Common.{ℕ, List, sym, ap, ◌∙◌}
use Rattle.std.specs.List.{slice_get}
use Rattle.pin_views.specs.declared.rows.Row.{Row}
use Rattle.sliced_save.proofs.RowLemmas.{no_row, row_at, row_fits}
use Rattle.sliced_save.proofs.rows.Rows.at.Goals as goal

pub returns-in-Some : goal.returns-in-Some
returns-in-Some g c = record {
  row = sym (row_at c.self.inside.names c.args.i (c.in-Some.name.now, c.in-Some.items.now) c.last_of.result.now c.in-Some.ensures.all.each (sym c.in-Some.ensures.pair) (sym c.last_of.ensures))
      ∙ ap (λ (rows : List (List ℕ × Row)). slice_get rows c.args.i) c.self.view_is;
  fits = row_fits c.in-Some.name.now c.in-Some.items.now c.last_of.result.now c.in-Some.ensures.kept (sym c.last_of.ensures);
  cost = c.in-Some.ensures.cost;
}

pub returns-in-None-clause-row : goal.returns-in-None-clause-row
returns-in-None-clause-row g c =
    sym (no_row c.self.inside.names c.args.i c.in-None.ensures.all.each (sym c.in-None.ensures.pair)) ∙ ap (λ (rows : List (List ℕ × Row)). slice_get rows c.args.i) c.self.view_is
