use Rattle.std.proofs.Common.{◌+◌, drop, subst}
use Rattle.std.proofs.lemmas.Result.{err_from_is_err_and}
use Rattle.name_report.specs.Page.{outgoing}
use Rattle.name_report.specs.Text.{item_line, item_lines}
use Rattle.name_report.proofs.PageLemmas.{Going, goes_on, stops_in}
use Rattle.name_report.proofs.TextLemmas.{item_lines-next}
use Rattle.name_report.proofs.lines.put_items.Goals as goal

pub returns-in_err-put_item : goal.returns-in_err-put_item
returns-in_err-put_item g c =
    let old = outgoing (g.K.Sink.seen c.args.sink.now) c.args.page.now in
    let mid = outgoing (g.K.Sink.seen c.loop-item.sink) c.loop-item.page in
    let now = outgoing (g.K.Sink.seen c.put_item.new.sink) c.put_item.new.page in
    let items = c.args.items.now in
    let i = c.loop-item.item-index in
    let item = c.item-item.result in
    let p = err_from_is_err_and c.from_residual.result c.from_residual.ensures.1 in
    rw p.1 (stops_in old mid now (item_lines items) (item_line item) (item_lines (drop (i + 1) items))
    (subst (Going old mid (item_lines items)) (item_lines-next items i item c.loop-item-test.true c.item-item.is) c.loop-item.invariant) c.in_err-put_item.ensures)

pub loop-item-preserved : goal.loop-item-preserved
loop-item-preserved g c =
    let old = outgoing (g.K.Sink.seen c.args.sink.now) c.args.page.now in
    let mid = outgoing (g.K.Sink.seen c.loop-item.sink) c.loop-item.page in
    let now = outgoing (g.K.Sink.seen c.put_item.new.sink) c.put_item.new.page in
    let items = c.args.items.now in
    let i = c.loop-item.item-index in
    let item = c.item-item.result in
    goes_on old mid now (item_lines items) (item_line item) (item_lines (drop (i + 1) items))
    (subst (Going old mid (item_lines items)) (item_lines-next items i item c.loop-item-test.true c.item-item.is) c.loop-item.invariant) c.in_ok-put_item.ensures
