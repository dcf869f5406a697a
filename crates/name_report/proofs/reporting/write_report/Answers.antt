use Rattle.std.proofs.Common.{List, ℕ, ◌++◌, subst}
use Rattle.std.proofs.lemmas.Result.{err_from_is_err_and}
use Rattle.frame_loop.specs.Delivery.{TookPart}
use Rattle.name_report.specs.Order.{bytes_of}
use Rattle.name_report.specs.Page.{outgoing, PutAll}
use Rattle.name_report.specs.Report.{reported_by}
use Rattle.name_report.specs.Text.{report_text}
use Rattle.name_report.proofs.PageLemmas.{flushed}
use Rattle.name_report.proofs.reporting.write_report.Goals as goal

pub returns-in_err-put_report : goal.returns-in_err-put_report
returns-in_err-put_report g c =
    let text = report_text (reported_by c.args.chain.now) (bytes_of c.args.names.now.keys) in
    let p = err_from_is_err_and c.from_residual.result c.from_residual.ensures.1 in
    rw p.1 (subst (λ (held : List ℕ). TookPart (g.K.Sink.seen c.args.sink.now) (g.K.Sink.seen c.put_report.new.sink) (held ++ text)) c.requires c.in_err-put_report.ensures)

pub returns : goal.returns
returns g c =
    let old = g.K.Sink.seen c.args.sink.now in
    let mid = outgoing (g.K.Sink.seen c.put_report.new.sink) c.put_report.new.page in
    let text = report_text (reported_by c.args.chain.now) (bytes_of c.args.names.now.keys) in
    flushed old mid (g.K.Sink.seen c.flush.new.sink) text c.flush.result
    (subst (λ (held : List ℕ). PutAll (outgoing old held) mid text) c.requires c.in_ok-put_report.ensures) c.flush.ensures.delivers
