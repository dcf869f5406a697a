use Rattle.std.proofs.Common.{ap}
use Rattle.std.specs.Prelude.{Ok}
use Rattle.std.proofs.lemmas.Result.{err_from_is_err_and}
use Rattle.name_tables.specs.declared.tables.Tables.{Tables}
use Rattle.name_report.specs.Order.{bytes_of}
use Rattle.name_report.specs.Report.{reported_by}
use Rattle.name_report.specs.Text.{report_text}
use Rattle.name_report.proofs.ReportLemmas.{is_report, reports_on}
use Rattle.name_report.proofs.reporting.report.Goals as goal

pub returns-in_err-write_report-clause-index : goal.returns-in_err-write_report-clause-index
returns-in_err-write_report-clause-index g c =
    let names = bytes_of c.in_ok-names.names.keys in
    let p = err_from_is_err_and c.from_residual-in_err-write_report.result c.from_residual-in_err-write_report.ensures.1 in
    rw (p.1, p.2) (record {
      text = report_text (reported_by c.args.chain.now) names;
      is = is_report c.args.chain.now c.parts.result.now.names names (ap (λ (t : Tables). t.names) c.parts.ensures.parts.tables) c.parts.ensures.filled.names c.in_ok-names.ensures;
      took = c.in_err-write_report.ensures;
    })

pub returns-in_err-write_report-clause-chain : goal.returns-in_err-write_report-clause-chain
returns-in_err-write_report-clause-chain g c = λ base start blocks stands.
    reports_on base start blocks c.args.chain.now (g.K.Sink.seen c.args.sink.now) (g.K.Sink.seen c.write_report.new.sink) c.from_residual-in_err-write_report.result stands (returns-in_err-write_report-clause-index g c)

pub returns-clause-index : goal.returns-clause-index
returns-clause-index g c =
    let names = bytes_of c.in_ok-names.names.keys in
    record {
      text = report_text (reported_by c.args.chain.now) names;
      is = is_report c.args.chain.now c.parts.result.now.names names (ap (λ (t : Tables). t.names) c.parts.ensures.parts.tables) c.parts.ensures.filled.names c.in_ok-names.ensures;
      took = c.in_ok-write_report.ensures;
    }

pub returns-clause-chain : goal.returns-clause-chain
returns-clause-chain g c = λ base start blocks stands.
    reports_on base start blocks c.args.chain.now (g.K.Sink.seen c.args.sink.now) (g.K.Sink.seen c.write_report.new.sink) (Ok tt) stands (returns-clause-index g c)
