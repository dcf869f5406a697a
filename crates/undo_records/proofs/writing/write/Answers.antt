use Rattle.chain_names.specs.Seen.{seen_undo}
use Rattle.undo_records.specs.declared.version.Version.TheVariants.{Two}
use Rattle.undo_records.proofs.ToldLaws.{told_again}
use Rattle.undo_records.proofs.writing.write.Goals as goal

pub returns-in_err-add_undo-clause-again : goal.returns-in_err-add_undo-clause-again
returns-in_err-add_undo-clause-again c more = told_again Two (seen_undo c.args.undo.now) more c.read_widths.ensures

pub returns-clause-again : goal.returns-clause-again
returns-clause-again c more = told_again Two (seen_undo c.args.undo.now) more c.read_widths.ensures
