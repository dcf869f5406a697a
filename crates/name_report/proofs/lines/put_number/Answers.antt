use Rattle.std.proofs.Common.{List, ℕ, ◌++◌, subst, ◌∙◌}
use Rattle.std.proofs.lemmas.Result.{err_from_is_err_and}
use Rattle.std.specs.Fmt.{decimal}
use Rattle.name_report.specs.Page.{outgoing, Puts}
use Rattle.name_report.proofs.PageLemmas.{starts, goes_on, stops_in, closes}
use Rattle.name_report.proofs.lines.put_number.Goals as goal

pub returns-in_err-put : goal.returns-in_err-put
returns-in_err-put g c =
    let old = outgoing (g.K.Sink.seen c.args.sink.now) c.args.page.now in
    let now = outgoing (g.K.Sink.seen c.put.new.sink) c.put.new.self in
    let whole = c.args.before.now ++ decimal c.args.number in
    let p = err_from_is_err_and c.from_residual.result c.from_residual.ensures.1 in
    rw p.1 (stops_in old old now whole c.args.before.now (decimal c.args.number) (starts old whole) c.in_err-put.ensures)

pub returns : goal.returns
returns g c =
    let old = outgoing (g.K.Sink.seen c.args.sink.now) c.args.page.now in
    let mid = outgoing (g.K.Sink.seen c.put.new.sink) c.put.new.self in
    let now = outgoing (g.K.Sink.seen c.put-2.new.sink) c.put-2.new.self in
    let whole = c.args.before.now ++ decimal c.args.number in
    closes old mid now whole (decimal c.args.number) c.put-2.result
    (goes_on old old mid whole c.args.before.now (decimal c.args.number) (starts old whole) c.in_ok-put.ensures)
    (subst (λ (text : List ℕ). Puts mid now text c.put-2.result) (c.as_bytes.ensures.value ∙ c.format.ensures.text) c.put-2.ensures)
