use Rattle.std.proofs.Common.{refl, sym, subst}
use Rattle.chain_names.specs.Tables.{AreNamesFilled}
use Rattle.table_trials.proofs.pinned_rows.empty.Goals as goal

pub returns : goal.returns
returns c = subst AreNamesFilled (sym c.in_ok-table.ensures.empty) (λ name. refl)
