use Rattle.std.proofs.Common.{sym, ◌∙◌}
use Rattle.import_expand.proofs.LabelLemmas.{not_true}
use Rattle.import_expand.proofs.marked.Marked.is_alone.Goals as goal

pub returns : goal.returns
returns c told = record { entry = c.has_map.ensures c.if-has_map.false; import = sym c.args.self.now.is_import ∙ not_true c.args.self.now.import told }
