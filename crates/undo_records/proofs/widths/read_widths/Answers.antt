use Rattle.chain_names.specs.Seen.{seen_undo}
use Rattle.undo_records.proofs.WidthLaws.{measured_fits}
use Rattle.undo_records.proofs.widths.read_widths.Goals as goal

pub returns : goal.returns
returns c = measured_fits (seen_undo c.args.undo.now) c.requires c.read_record.ensures
