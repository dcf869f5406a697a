use Rattle.std.proofs.Common.{length, sym, ap, ◌∙◌}
use Rattle.sliced_save.proofs.RowLemmas.{count_rows}
use Rattle.sliced_save.proofs.rows.Rows.len.Goals as goal

pub returns : goal.returns
returns c = c.count.ensures.count ∙ sym (count_rows c.self.inside.names c.count.ensures.kept.each) ∙ ap length c.self.view_is
