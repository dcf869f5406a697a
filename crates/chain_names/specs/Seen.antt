-- What contracts see of a record that undoes a block.
use Rattle.chain_names.specs.Undo.{UndoRecord}
use Rattle.chain_names.specs.declared.undo.Undo.{Undo}

-- without the spare room of its lists
abbrev pub seen_undo : Undo → UndoRecord
seen_undo undo = record { block = undo.block; ops = undo.ops.items; expired = undo.expired.items }
