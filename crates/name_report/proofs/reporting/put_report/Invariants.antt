use Rattle.name_report.specs.Order.{bytes_of}
use Rattle.name_report.specs.Page.{outgoing}
use Rattle.name_report.specs.Report.{reported_by}
use Rattle.name_report.specs.Text.{names_lines, report_text}
use Rattle.name_report.proofs.PageLemmas.{Going}
use Rattle.name_report.proofs.reporting.put_report.Given as goal

abbrev pub invariant-loop-name : goal.invariant-loop-name
invariant-loop-name g l =
    let what = reported_by l.chain in
    Going (outgoing (g.K.Sink.seen l.fn.sink) l.fn.page) (outgoing (g.K.Sink.seen l.sink) l.page) (report_text what (bytes_of l.names.keys)) (names_lines what (bytes_of l.name-iterator))
