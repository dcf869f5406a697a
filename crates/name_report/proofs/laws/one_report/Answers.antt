use Rattle.std.proofs.Common.{sym, ap, ◌∙◌}
use Rattle.name_report.specs.Text.{report_text}
use Rattle.name_report.proofs.ReportLemmas.{one_list}
use Rattle.name_report.proofs.laws.one_report.Goals as goal

pub returns : goal.returns
returns c = record {
  names = one_list;
  text = λ what a b first second. first.is ∙ ap (report_text what) (one_list what.histories first.names second.names first.are second.are) ∙ sym second.is;
}
