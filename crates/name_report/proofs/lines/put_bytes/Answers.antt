use Rattle.std.proofs.Common.{◌++◌, sym, subst, ◌∙◌}
use Rattle.std.specs.Prelude.{codes}
use Rattle.std.proofs.lemmas.Result.{err_from_is_err_and}
use Rattle.hex.specs.Hex.{encode_lower}
use Rattle.name_report.specs.Page.{outgoing}
use Rattle.name_report.specs.Text.{bytes_text}
use Rattle.name_report.proofs.PageLemmas.{Going, starts, goes_on, stops_in, closes}
use Rattle.name_report.proofs.TextLemmas.{bytes_text-none, bytes_text-some}
use Rattle.name_report.proofs.lines.put_bytes.Goals as goal

pub returns-in_err-put : goal.returns-in_err-put
returns-in_err-put g c =
    let old = outgoing (g.K.Sink.seen c.args.sink.now) c.args.page.now in
    let m1 = outgoing (g.K.Sink.seen c.put.new.sink) c.put.new.self in
    let whole = c.args.before.now ++ bytes_text c.args.bytes.now in
    let p = err_from_is_err_and c.from_residual.result c.from_residual.ensures.1 in
    rw p.1 (stops_in old old m1 whole c.args.before.now (bytes_text c.args.bytes.now) (starts old whole) c.in_err-put.ensures)

pub returns-then-is_empty : goal.returns-then-is_empty
returns-then-is_empty g c =
    let old = outgoing (g.K.Sink.seen c.args.sink.now) c.args.page.now in
    let m1 = outgoing (g.K.Sink.seen c.put.new.sink) c.put.new.self in
    let m2 = outgoing (g.K.Sink.seen c.put-then-is_empty.new.sink) c.put-then-is_empty.new.self in
    let whole = c.args.before.now ++ bytes_text c.args.bytes.now in
    closes old m1 m2 whole (codes "-") c.put-then-is_empty.result
    (subst (Going old m1 whole) (bytes_text-none c.args.bytes.now (sym c.is_empty.ensures ∙ c.if-is_empty.true))
    (goes_on old old m1 whole c.args.before.now (bytes_text c.args.bytes.now) (starts old whole) c.in_ok-put.ensures)) c.put-then-is_empty.ensures

pub returns : goal.returns
returns g c =
    let old = outgoing (g.K.Sink.seen c.args.sink.now) c.args.page.now in
    let m1 = outgoing (g.K.Sink.seen c.put.new.sink) c.put.new.self in
    let m2 = outgoing (g.K.Sink.seen c.put_digits.new.sink) c.put_digits.new.page in
    let whole = c.args.before.now ++ bytes_text c.args.bytes.now in
    closes old m1 m2 whole (encode_lower c.args.bytes.now) c.put_digits.result
    (subst (Going old m1 whole) (bytes_text-some c.args.bytes.now (sym c.is_empty.ensures ∙ c.if-is_empty.false))
    (goes_on old old m1 whole c.args.before.now (bytes_text c.args.bytes.now) (starts old whole) c.in_ok-put.ensures)) c.put_digits.ensures
