use Rattle.std.proofs.Common.{sym, ◌∙◌}
use Rattle.std.specs.Cmp.Lexicographic.{bytes_decides}
use Rattle.import_expand.proofs.ShelfLemmas.{newest_read}
use Rattle.import_expand.proofs.shelf.Shelf.newest.Goals as goal

pub returns-then-eq : goal.returns-then-eq
returns-then-eq c =
    newest_read c.self.inside.kept.entries c.in-Some.newest.now c.args.text.now c.in-Some.object.now c.share.result c.self.invariant c.in-Some.ensures
    (sym c.as_slice.ensures ∙ (bytes_decides c.as_slice.result.now c.args.text.now).0 (sym c.if-eq.ensures)) c.share.ensures
