use Rattle.std.proofs.Common.{List, ℕ, ◌++◌, subst}
use Rattle.std.specs.Prelude.{codes}
use Rattle.std.specs.Fmt.{decimal}
use Rattle.std.proofs.lemmas.Result.{err_from_is_err_and}
use Rattle.frame_loop.specs.Delivery.{TookPart}
use Rattle.name_report.specs.Page.{outgoing, PutAll}
use Rattle.name_report.specs.Text.{bytes_text, entry_line, state_text}
use Rattle.name_report.proofs.PageLemmas.{Going, starts, goes_on, stops_in, closes}
use Rattle.name_report.proofs.TextLemmas.{entry_line-pieces}
use Rattle.name_report.proofs.lines.put_entry.Goals as goal

pub returns-in_err-put_bytes : goal.returns-in_err-put_bytes
returns-in_err-put_bytes g c =
    let old = outgoing (g.K.Sink.seen c.args.sink.now) c.args.page.now in
    let m1 = outgoing (g.K.Sink.seen c.put_bytes.new.sink) c.put_bytes.new.page in
    let whole = entry_line c.args.name.now c.args.entry.now c.args.served in
    let p = err_from_is_err_and c.from_residual.result c.from_residual.ensures.1 in
    rw p.1 (stops_in old old m1 whole (codes "name " ++ bytes_text c.args.name.now) ((codes " " ++ decimal c.args.entry.now.height) ++ ((state_text c.args.served ++ bytes_text c.args.entry.now.value) ++ (codes "\n"))) (subst (Going old old whole) (entry_line-pieces c.args.name.now c.args.entry.now c.args.served) (starts old whole)) c.in_err-put_bytes.ensures)

pub returns-in_err-put_number : goal.returns-in_err-put_number
returns-in_err-put_number g c =
    let old = outgoing (g.K.Sink.seen c.args.sink.now) c.args.page.now in
    let m1 = outgoing (g.K.Sink.seen c.put_bytes.new.sink) c.put_bytes.new.page in
    let m2 = outgoing (g.K.Sink.seen c.put_number.new.sink) c.put_number.new.page in
    let whole = entry_line c.args.name.now c.args.entry.now c.args.served in
    let p = err_from_is_err_and c.from_residual-in_err-put_number.result c.from_residual-in_err-put_number.ensures.1 in
    rw p.1 (stops_in old m1 m2 whole (codes " " ++ decimal c.args.entry.now.height) ((state_text c.args.served ++ bytes_text c.args.entry.now.value) ++ (codes "\n")) (goes_on old old m1 whole (codes "name " ++ bytes_text c.args.name.now) ((codes " " ++ decimal c.args.entry.now.height) ++ ((state_text c.args.served ++ bytes_text c.args.entry.now.value) ++ (codes "\n"))) (subst (Going old old whole) (entry_line-pieces c.args.name.now c.args.entry.now c.args.served) (starts old whole)) c.in_ok-put_bytes.ensures) c.in_err-put_number.ensures)

pub returns-in_err-put_bytes-2 : goal.returns-in_err-put_bytes-2
returns-in_err-put_bytes-2 g c =
    let old = outgoing (g.K.Sink.seen c.args.sink.now) c.args.page.now in
    let m1 = outgoing (g.K.Sink.seen c.put_bytes.new.sink) c.put_bytes.new.page in
    let m2 = outgoing (g.K.Sink.seen c.put_number.new.sink) c.put_number.new.page in
    let m3 = outgoing (g.K.Sink.seen c.put_bytes-2.new.sink) c.put_bytes-2.new.page in
    let whole = entry_line c.args.name.now c.args.entry.now c.args.served in
    let p = err_from_is_err_and c.from_residual-in_err-put_bytes-2.result c.from_residual-in_err-put_bytes-2.ensures.1 in
    rw p.1 (stops_in old m2 m3 whole (state_text c.args.served ++ bytes_text c.args.entry.now.value) (codes "\n") (goes_on old m1 m2 whole (codes " " ++ decimal c.args.entry.now.height) ((state_text c.args.served ++ bytes_text c.args.entry.now.value) ++ (codes "\n")) (goes_on old old m1 whole (codes "name " ++ bytes_text c.args.name.now) ((codes " " ++ decimal c.args.entry.now.height) ++ ((state_text c.args.served ++ bytes_text c.args.entry.now.value) ++ (codes "\n"))) (subst (Going old old whole) (entry_line-pieces c.args.name.now c.args.entry.now c.args.served) (starts old whole)) c.in_ok-put_bytes.ensures) c.in_ok-put_number.ensures) (subst (λ (s : List ℕ). TookPart m2.seen m3.seen (m2.held ++ (s ++ bytes_text c.args.entry.now.value))) c.state.ensures.text (subst (λ (v : List ℕ). TookPart m2.seen m3.seen (m2.held ++ (c.state.result.now ++ bytes_text v))) c.as_slice.ensures c.in_err-put_bytes-2.ensures)))

pub returns : goal.returns
returns g c =
    let old = outgoing (g.K.Sink.seen c.args.sink.now) c.args.page.now in
    let m1 = outgoing (g.K.Sink.seen c.put_bytes.new.sink) c.put_bytes.new.page in
    let m2 = outgoing (g.K.Sink.seen c.put_number.new.sink) c.put_number.new.page in
    let m3 = outgoing (g.K.Sink.seen c.put_bytes-2.new.sink) c.put_bytes-2.new.page in
    let m4 = outgoing (g.K.Sink.seen c.put.new.sink) c.put.new.self in
    let whole = entry_line c.args.name.now c.args.entry.now c.args.served in
    closes old m3 m4 whole (codes "\n") c.put.result (goes_on old m2 m3 whole (state_text c.args.served ++ bytes_text c.args.entry.now.value) (codes "\n") (goes_on old m1 m2 whole (codes " " ++ decimal c.args.entry.now.height) ((state_text c.args.served ++ bytes_text c.args.entry.now.value) ++ (codes "\n")) (goes_on old old m1 whole (codes "name " ++ bytes_text c.args.name.now) ((codes " " ++ decimal c.args.entry.now.height) ++ ((state_text c.args.served ++ bytes_text c.args.entry.now.value) ++ (codes "\n"))) (subst (Going old old whole) (entry_line-pieces c.args.name.now c.args.entry.now c.args.served) (starts old whole)) c.in_ok-put_bytes.ensures) c.in_ok-put_number.ensures) (subst (λ (s : List ℕ). PutAll m2 m3 (s ++ bytes_text c.args.entry.now.value)) c.state.ensures.text (subst (λ (v : List ℕ). PutAll m2 m3 (c.state.result.now ++ bytes_text v)) c.as_slice.ensures c.in_ok-put_bytes-2.ensures))) c.put.ensures
