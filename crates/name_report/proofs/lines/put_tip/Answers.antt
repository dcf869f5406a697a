use Rattle.std.proofs.Common.{List, ℕ, ◌++◌, subst}
use Rattle.std.specs.Prelude.{codes}
use Rattle.std.specs.Fmt.{decimal}
use Rattle.std.proofs.lemmas.Result.{err_from_is_err_and}
use Rattle.frame_loop.specs.Delivery.{TookPart}
use Rattle.hex.specs.Hex.{encode_lower}
use Rattle.nmc_base.specs.Hash.{display_text}
use Rattle.name_report.specs.Page.{outgoing, PutAll}
use Rattle.name_report.specs.Text.{tip_line}
use Rattle.name_report.proofs.PageLemmas.{Going, starts, goes_on, stops_in, closes}
use Rattle.name_report.proofs.TextLemmas.{tip_line-pieces}
use Rattle.name_report.proofs.lines.put_tip.Goals as goal

pub returns-in_err-put_number : goal.returns-in_err-put_number
returns-in_err-put_number g c =
    let old = outgoing (g.K.Sink.seen c.args.sink.now) c.args.page.now in
    let m1 = outgoing (g.K.Sink.seen c.put_number.new.sink) c.put_number.new.page in
    let whole = tip_line c.args.tip.height c.args.tip.hash.0 in
    let p = err_from_is_err_and c.from_residual.result c.from_residual.ensures.1 in
    rw p.1 (stops_in old old m1 whole (codes "tip " ++ decimal c.args.tip.height) ((codes " ") ++ ((display_text c.args.tip.hash.0) ++ (codes "\n"))) (subst (Going old old whole) (tip_line-pieces c.args.tip.height c.args.tip.hash.0) (starts old whole)) c.in_err-put_number.ensures)

pub returns-in_err-put : goal.returns-in_err-put
returns-in_err-put g c =
    let old = outgoing (g.K.Sink.seen c.args.sink.now) c.args.page.now in
    let m1 = outgoing (g.K.Sink.seen c.put_number.new.sink) c.put_number.new.page in
    let m2 = outgoing (g.K.Sink.seen c.put.new.sink) c.put.new.self in
    let whole = tip_line c.args.tip.height c.args.tip.hash.0 in
    let p = err_from_is_err_and c.from_residual-in_err-put.result c.from_residual-in_err-put.ensures.1 in
    rw p.1 (stops_in old m1 m2 whole (codes " ") ((display_text c.args.tip.hash.0) ++ (codes "\n")) (goes_on old old m1 whole (codes "tip " ++ decimal c.args.tip.height) ((codes " ") ++ ((display_text c.args.tip.hash.0) ++ (codes "\n"))) (subst (Going old old whole) (tip_line-pieces c.args.tip.height c.args.tip.hash.0) (starts old whole)) c.in_ok-put_number.ensures) c.in_err-put.ensures)

pub returns-in_err-put_digits : goal.returns-in_err-put_digits
returns-in_err-put_digits g c =
    let old = outgoing (g.K.Sink.seen c.args.sink.now) c.args.page.now in
    let m1 = outgoing (g.K.Sink.seen c.put_number.new.sink) c.put_number.new.page in
    let m2 = outgoing (g.K.Sink.seen c.put.new.sink) c.put.new.self in
    let m3 = outgoing (g.K.Sink.seen c.put_digits.new.sink) c.put_digits.new.page in
    let whole = tip_line c.args.tip.height c.args.tip.hash.0 in
    let p = err_from_is_err_and c.from_residual-in_err-put_digits.result c.from_residual-in_err-put_digits.ensures.1 in
    rw p.1 (stops_in old m2 m3 whole (display_text c.args.tip.hash.0) (codes "\n") (goes_on old m1 m2 whole (codes " ") ((display_text c.args.tip.hash.0) ++ (codes "\n")) (goes_on old old m1 whole (codes "tip " ++ decimal c.args.tip.height) ((codes " ") ++ ((display_text c.args.tip.hash.0) ++ (codes "\n"))) (subst (Going old old whole) (tip_line-pieces c.args.tip.height c.args.tip.hash.0) (starts old whole)) c.in_ok-put_number.ensures) c.in_ok-put.ensures) (subst (λ (h : List ℕ). TookPart m2.seen m3.seen (m2.held ++ encode_lower h)) c.reverse.ensures.after c.in_err-put_digits.ensures))

pub returns : goal.returns
returns g c =
    let old = outgoing (g.K.Sink.seen c.args.sink.now) c.args.page.now in
    let m1 = outgoing (g.K.Sink.seen c.put_number.new.sink) c.put_number.new.page in
    let m2 = outgoing (g.K.Sink.seen c.put.new.sink) c.put.new.self in
    let m3 = outgoing (g.K.Sink.seen c.put_digits.new.sink) c.put_digits.new.page in
    let m4 = outgoing (g.K.Sink.seen c.put-2.new.sink) c.put-2.new.self in
    let whole = tip_line c.args.tip.height c.args.tip.hash.0 in
    closes old m3 m4 whole (codes "\n") c.put-2.result (goes_on old m2 m3 whole (display_text c.args.tip.hash.0) (codes "\n") (goes_on old m1 m2 whole (codes " ") ((display_text c.args.tip.hash.0) ++ (codes "\n")) (goes_on old old m1 whole (codes "tip " ++ decimal c.args.tip.height) ((codes " ") ++ ((display_text c.args.tip.hash.0) ++ (codes "\n"))) (subst (Going old old whole) (tip_line-pieces c.args.tip.height c.args.tip.hash.0) (starts old whole)) c.in_ok-put_number.ensures) c.in_ok-put.ensures) (subst (λ (h : List ℕ). PutAll m2 m3 (encode_lower h)) c.reverse.ensures.after c.in_ok-put_digits.ensures)) c.put-2.ensures
