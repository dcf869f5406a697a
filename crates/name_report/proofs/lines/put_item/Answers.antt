use Rattle.std.proofs.Common.{List, ℕ, ◌++◌, subst}
use Rattle.std.specs.Prelude.{codes}
use Rattle.std.specs.Fmt.{decimal}
use Rattle.std.proofs.lemmas.Result.{err_from_is_err_and}
use Rattle.frame_loop.specs.Delivery.{TookPart}
use Rattle.name_report.specs.Page.{Outgoing, outgoing, PutAll}
use Rattle.name_report.specs.Text.{bytes_text, item_line}
use Rattle.chain_names.specs.declared.coin.Item.{Item}
use Rattle.name_report.proofs.PageLemmas.{Going, starts, goes_on, stops_in, closes}
use Rattle.name_report.proofs.TextLemmas.{item_line-pieces}
use Rattle.name_report.proofs.lines.put_item.Goals as goal

abbrev at_text : Item → List ℕ
at_text item = codes "  at " ++ decimal item.height

abbrev since_text : Item → List ℕ
since_text item = codes " since " ++ decimal item.registered

abbrev value_text : Item → List ℕ
value_text item = codes " " ++ bytes_text item.value

begins : (old : Outgoing) (item : Item) → Going old old (item_line item) (at_text item ++ (since_text item ++ (value_text item ++ codes "\n")))
begins old item = subst (Going old old (item_line item)) (item_line-pieces item) (starts old (item_line item))

behind_height : (old m1 : Outgoing) (item : Item) → PutAll old m1 (at_text item) → Going old m1 (item_line item) (since_text item ++ (value_text item ++ codes "\n"))
behind_height old m1 item put = goes_on old old m1 (item_line item) (at_text item) (since_text item ++ (value_text item ++ codes "\n")) (begins old item) put

behind_since : (old m1 m2 : Outgoing) (item : Item) → PutAll old m1 (at_text item) → PutAll m1 m2 (since_text item) → Going old m2 (item_line item) (value_text item ++ codes "\n")
behind_since old m1 m2 item first second = goes_on old m1 m2 (item_line item) (since_text item) (value_text item ++ codes "\n") (behind_height old m1 item first) second

pub returns-in_err-put_number : goal.returns-in_err-put_number
returns-in_err-put_number g c =
    let item = c.args.item.now in
    let old = outgoing (g.K.Sink.seen c.args.sink.now) c.args.page.now in
    let m1 = outgoing (g.K.Sink.seen c.put_number.new.sink) c.put_number.new.page in
    let p = err_from_is_err_and c.from_residual.result c.from_residual.ensures.1 in
    rw p.1 (stops_in old old m1 (item_line item) (at_text item) (since_text item ++ (value_text item ++ codes "\n")) (begins old item) c.in_err-put_number.ensures)

pub returns-in_err-put_number-2 : goal.returns-in_err-put_number-2
returns-in_err-put_number-2 g c =
    let item = c.args.item.now in
    let old = outgoing (g.K.Sink.seen c.args.sink.now) c.args.page.now in
    let m1 = outgoing (g.K.Sink.seen c.put_number.new.sink) c.put_number.new.page in
    let m2 = outgoing (g.K.Sink.seen c.put_number-2.new.sink) c.put_number-2.new.page in
    let p = err_from_is_err_and c.from_residual-in_err-put_number-2.result c.from_residual-in_err-put_number-2.ensures.1 in
    rw p.1 (stops_in old m1 m2 (item_line item) (since_text item) (value_text item ++ codes "\n") (behind_height old m1 item c.in_ok-put_number.ensures) c.in_err-put_number-2.ensures)

pub returns-in_err-put_bytes : goal.returns-in_err-put_bytes
returns-in_err-put_bytes g c =
    let item = c.args.item.now in
    let old = outgoing (g.K.Sink.seen c.args.sink.now) c.args.page.now in
    let m1 = outgoing (g.K.Sink.seen c.put_number.new.sink) c.put_number.new.page in
    let m2 = outgoing (g.K.Sink.seen c.put_number-2.new.sink) c.put_number-2.new.page in
    let m3 = outgoing (g.K.Sink.seen c.put_bytes.new.sink) c.put_bytes.new.page in
    let p = err_from_is_err_and c.from_residual-in_err-put_bytes.result c.from_residual-in_err-put_bytes.ensures.1 in
    rw p.1 (stops_in old m2 m3 (item_line item) (value_text item) (codes "\n") (behind_since old m1 m2 item c.in_ok-put_number.ensures c.in_ok-put_number-2.ensures)
    (subst (λ (v : List ℕ). TookPart m2.seen m3.seen (m2.held ++ (codes " " ++ bytes_text v))) c.as_slice.ensures c.in_err-put_bytes.ensures))

pub returns : goal.returns
returns g c =
    let item = c.args.item.now in
    let old = outgoing (g.K.Sink.seen c.args.sink.now) c.args.page.now in
    let m1 = outgoing (g.K.Sink.seen c.put_number.new.sink) c.put_number.new.page in
    let m2 = outgoing (g.K.Sink.seen c.put_number-2.new.sink) c.put_number-2.new.page in
    let m3 = outgoing (g.K.Sink.seen c.put_bytes.new.sink) c.put_bytes.new.page in
    let m4 = outgoing (g.K.Sink.seen c.put.new.sink) c.put.new.self in
    closes old m3 m4 (item_line item) (codes "\n") c.put.result
    (goes_on old m2 m3 (item_line item) (value_text item) (codes "\n") (behind_since old m1 m2 item c.in_ok-put_number.ensures c.in_ok-put_number-2.ensures)
    (subst (λ (v : List ℕ). PutAll m2 m3 (codes " " ++ bytes_text v)) c.as_slice.ensures c.in_ok-put_bytes.ensures)) c.put.ensures
