use Rattle.std.proofs.Common.{refl}
use Rattle.undo_records.specs.Text.{point_text}
use Rattle.name_snapshot.proofs.laws.worked_texts.Goals as goal

pub returns : goal.returns
unfolding point_text
returns c = record { value = refl; length = refl; commitment = refl; order = refl }
