use Rattle.std.proofs.Common.{List, ℕ, Bor, ◌++◌, ap, subst}
use Rattle.std.proofs.lemmas.Map.Iter.{rest_more}
use Rattle.std.proofs.lemmas.Result.{err_from_is_err_and}
use Rattle.std.specs.Map.Iter.{deref}
use Rattle.frame_loop.specs.Delivery.{TookPart}
use Rattle.nmc_base.specs.declared.chain_ends.Tip.{Tip}
use Rattle.name_report.specs.Order.{bytes_of}
use Rattle.name_report.specs.Page.{outgoing}
use Rattle.name_report.specs.Report.{reported_by}
use Rattle.name_report.specs.Text.{tip_line, name_lines, names_lines, report_text}
use Rattle.name_report.proofs.PageLemmas.{Going, starts, goes_on, stops_in}
use Rattle.name_report.proofs.reporting.put_report.Goals as goal

pub returns-in_err-put_tip : goal.returns-in_err-put_tip
returns-in_err-put_tip g c =
    let old = outgoing (g.K.Sink.seen c.args.sink.now) c.args.page.now in
    let now = outgoing (g.K.Sink.seen c.put_tip.new.sink) c.put_tip.new.page in
    let what = reported_by c.args.chain.now in
    let names = bytes_of c.args.names.now.keys in
    let whole = report_text what names in
    let p = err_from_is_err_and c.from_residual.result c.from_residual.ensures.1 in
    rw p.1 (stops_in old old now whole (tip_line what.height what.hash) (names_lines what names) (starts old whole)
    (subst (λ (tip : Tip). TookPart old.seen now.seen (old.held ++ tip_line tip.height tip.hash.0)) c.tip.ensures c.in_err-put_tip.ensures))

pub loop-name-preserved : goal.loop-name-preserved
loop-name-preserved g c =
    let old = outgoing (g.K.Sink.seen c.args.sink.now) c.args.page.now in
    let mid = outgoing (g.K.Sink.seen c.loop-name.sink) c.loop-name.page in
    let now = outgoing (g.K.Sink.seen c.put_name.new.sink) c.put_name.new.page in
    let what = reported_by c.args.chain.now in
    let whole = report_text what (bytes_of c.args.names.now.keys) in
    let name = c.in-Some.name.now.now in
    let more = rest_more deref c.loop-name.name-iterator c.next.new.self c.next.result c.in-Some.name c.in-Some.is c.next.ensures.steps in
    goes_on old mid now whole (name_lines what name) (names_lines what (bytes_of c.next.new.self))
    (subst (Going old mid whole) (ap (λ (l : List (Bor (List ℕ))). names_lines what (bytes_of l)) more) c.loop-name.invariant) c.in_ok-put_name.ensures

pub returns-in_err-put_name : goal.returns-in_err-put_name
returns-in_err-put_name g c =
    let old = outgoing (g.K.Sink.seen c.args.sink.now) c.args.page.now in
    let mid = outgoing (g.K.Sink.seen c.loop-name.sink) c.loop-name.page in
    let now = outgoing (g.K.Sink.seen c.put_name.new.sink) c.put_name.new.page in
    let what = reported_by c.args.chain.now in
    let whole = report_text what (bytes_of c.args.names.now.keys) in
    let name = c.in-Some.name.now.now in
    let more = rest_more deref c.loop-name.name-iterator c.next.new.self c.next.result c.in-Some.name c.in-Some.is c.next.ensures.steps in
    let p = err_from_is_err_and c.from_residual-in_err-put_name.result c.from_residual-in_err-put_name.ensures.1 in
    rw p.1 (stops_in old mid now whole (name_lines what name) (names_lines what (bytes_of c.next.new.self))
    (subst (Going old mid whole) (ap (λ (l : List (Bor (List ℕ))). names_lines what (bytes_of l)) more) c.loop-name.invariant) c.in_err-put_name.ensures)
