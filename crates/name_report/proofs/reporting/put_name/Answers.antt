use Rattle.std.proofs.Common.{◌≡◌, sym, ap, subst, ◌∙◌}
use Rattle.std.specs.Prelude.{Some}
use Rattle.std.specs.Option.{option_copied}
use Rattle.std.proofs.lemmas.Result.{err_from_is_err_and}
use Rattle.chain_names.specs.Coins.{entry_of}
use Rattle.chain_names.specs.Tables.{names_in}
use Rattle.chain_state.specs.Chain.{Indexed}
use Rattle.name_tables.specs.declared.tables.Tables.{Tables}
use Rattle.name_report.specs.Page.{outgoing}
use Rattle.name_report.specs.Report.{reported_by}
use Rattle.name_report.specs.Text.{entry_line, item_lines, name_lines}
use Rattle.name_report.proofs.PageLemmas.{Going, starts, goes_on, stops_in, closes}
use Rattle.name_report.proofs.TextLemmas.{name_lines-some, is_served-live, slice_get-last}
use Rattle.name_report.proofs.reporting.put_name.Goals as goal

pub returns-in_err-put_entry-in-Some : goal.returns-in_err-put_entry-in-Some
returns-in_err-put_entry-in-Some g c =
    let old = outgoing (g.K.Sink.seen c.args.sink.now) c.args.page.now in
    let now = outgoing (g.K.Sink.seen c.put_entry.new.sink) c.put_entry.new.page in
    let chain : Indexed = c.args.chain.now in
    let what = reported_by chain in
    let name = c.args.name.now in
    let items = c.history-items.result.now in
    let entry = c.in-Some.entry.now in
    let same : what.histories name ≡ items = sym (c.history-items.ensures ∙ ap (λ (t : Tables). names_in t.names name) c.parts.ensures.parts.tables) in
    let some : entry_of items ≡ Some entry = sym (slice_get-last items) ∙ sym c.last.ensures.value ∙ ap option_copied c.in-Some.is in
    let served = is_served-live what name c.live.result c.is_some.result c.is_some.ensures c.live.ensures in
    let whole = name_lines what name in
    let p = err_from_is_err_and c.from_residual.result c.from_residual.ensures.1 in
    rw p.1 (stops_in old old now whole (entry_line name entry c.is_some.result) (item_lines items)
    (subst (Going old old whole) (name_lines-some what name items entry c.is_some.result same some served) (starts old whole)) c.in_err-put_entry-in-Some.ensures)

pub returns-in_ok-put_entry-in-Some : goal.returns-in_ok-put_entry-in-Some
returns-in_ok-put_entry-in-Some g c =
    let old = outgoing (g.K.Sink.seen c.args.sink.now) c.args.page.now in
    let mid = outgoing (g.K.Sink.seen c.put_entry.new.sink) c.put_entry.new.page in
    let now = outgoing (g.K.Sink.seen c.put_items.new.sink) c.put_items.new.page in
    let chain : Indexed = c.args.chain.now in
    let what = reported_by chain in
    let name = c.args.name.now in
    let items = c.history-items.result.now in
    let entry = c.in-Some.entry.now in
    let same : what.histories name ≡ items = sym (c.history-items.ensures ∙ ap (λ (t : Tables). names_in t.names name) c.parts.ensures.parts.tables) in
    let some : entry_of items ≡ Some entry = sym (slice_get-last items) ∙ sym c.last.ensures.value ∙ ap option_copied c.in-Some.is in
    let served = is_served-live what name c.live.result c.is_some.result c.is_some.ensures c.live.ensures in
    let whole = name_lines what name in
    closes old mid now whole (item_lines items) c.put_items.result
    (goes_on old old mid whole (entry_line name entry c.is_some.result) (item_lines items)
    (subst (Going old old whole) (name_lines-some what name items entry c.is_some.result same some served) (starts old whole)) c.in_ok-put_entry-in-Some.ensures) c.put_items.ensures
