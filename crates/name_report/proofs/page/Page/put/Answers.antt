use Rattle.std.proofs.lemmas.Result.{err_from_is_err_and}
use Rattle.name_report.proofs.PageLemmas.{part_of_longer}
use Rattle.name_report.proofs.page.Page.put.Goals as goal

pub returns-in_err-flush : goal.returns-in_err-flush
returns-in_err-flush g c =
    let p = err_from_is_err_and c.from_residual.result c.from_residual.ensures.1 in
    rw p.1 (part_of_longer (g.K.Sink.seen c.args.sink.now) (g.K.Sink.seen c.flush.new.sink) c.args.self.now c.args.piece.now c.in_err-flush.ensures.delivers)
