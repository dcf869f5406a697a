-- What contracts see of an operation as records keep it.
use Rattle.chain_names.specs.declared.undo.UndoOp.{UndoOp}
use Rattle.chain_names.specs.declared.undo.UndoOp.TheVariants.{New as undo_new, First as undo_first, Update as undo_update}
use Rattle.chain_names.specs.declared.kept_op.Held.{Held}
use Rattle.chain_names.specs.declared.kept_op.Held.TheVariants.{New, First, Update}
use Rattle.chain_names.specs.declared.kept_op.OpParts.{OpParts}
use Rattle.chain_names.specs.declared.kept_op.OpParts.TheVariants as parts

abbrev pub op_held : Held → UndoOp
op_held (New made) = undo_new made
op_held (First made change) = undo_first made change.spent change.coin change.name change.before
op_held (Update made change) = undo_update made change.spent change.coin change.name change.before

abbrev pub op_seen : OpParts → UndoOp
op_seen (parts.New made) = undo_new made.now
op_seen (parts.First made change) = undo_first made.now change.now.spent change.now.coin change.now.name change.now.before
op_seen (parts.Update made change) = undo_update made.now change.now.spent change.now.coin change.now.name change.now.before
