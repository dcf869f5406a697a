use Rattle.std.proofs.Common.{rules, ◌<◌, length, Some, sym, ap, ◌∙◌}
use Rattle.std.proofs.lemmas.Option.{slice_get-get_or}
use Rattle.system_io.proofs.streams.Streams.receive.Goals as goal

pub returns-clause-ends : goal.returns-clause-ends
returns-clause-ends c =
    let items = c.args.self.now.streams.items in
    let low : c.in-Some.at < length items = search rules in
    c.let_go.ensures.gone c.index.result.now (slice_get-get_or items c.in-Some.at c.index.result.now low ∙ ap Some (sym c.index.ensures))
