use Rattle.std.proofs.Common.{◌≡◌, sym, subst, ap, ◌∙◌}
use Rattle.sliced_save.specs.Mirror.{Mirrored, items_at}
use Rattle.sliced_save.specs.Rows.{AreRowsOf, rows_of}
use Rattle.sliced_save.proofs.RowLemmas.{chain_rows, rows_are}
use Rattle.sliced_save.proofs.mirror.Mirror.pin_rows.Goals as goal

pub returns : goal.returns
returns c =
    let mirror = c.args.self.now in
    let names : c.in_ok-names.names ≡ mirror.names = c.in_ok-names.ensures ∙ ap (λ (m : Mirrored). m.names) c.self.view_is in
    let are : AreRowsOf (items_at mirror.names) c.of.result = subst (AreRowsOf (items_at mirror.names)) (sym (c.of.ensures ∙ ap rows_of names)) (rows_are mirror.names c.keeps.ensures.names) in
    record { rows = are; chain = λ base start blocks mirrors. chain_rows base start blocks mirror c.of.result are mirrors }
