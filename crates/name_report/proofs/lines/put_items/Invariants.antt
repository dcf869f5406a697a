use Rattle.std.proofs.Common.{drop}
use Rattle.name_report.specs.Page.{outgoing}
use Rattle.name_report.specs.Text.{item_lines}
use Rattle.name_report.proofs.PageLemmas.{Going}
use Rattle.name_report.proofs.lines.put_items.Given as goal

abbrev pub invariant-loop-item : goal.invariant-loop-item
invariant-loop-item g l =
    Going (outgoing (g.K.Sink.seen l.fn.sink) l.fn.page) (outgoing (g.K.Sink.seen l.sink) l.page) (item_lines l.items) (item_lines (drop l.item-index l.items))
