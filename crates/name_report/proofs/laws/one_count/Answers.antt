use Rattle.std.proofs.Common.{ℕ, length, sym, ap, ap₂, ◌∙◌}
use Rattle.std.specs.List.{count_by}
use Rattle.name_report.specs.Text.{is_served}
use Rattle.name_report.specs.declared.counting.NameCounts.{NameCounts}
use Rattle.name_report.proofs.ReportLemmas.{one_list}
use Rattle.name_report.proofs.laws.one_count.Goals as goal

abbrev counts_of : ℕ → ℕ → NameCounts
counts_of names served = record { names = names; served = served }

pub returns : goal.returns
returns c = λ what a b first second.
    let same = one_list what.histories first.names second.names first.are second.are in
    ap₂ counts_of (first.all ∙ ap length same ∙ sym second.all) (first.served ∙ ap (count_by (is_served what)) same ∙ sym second.served)
