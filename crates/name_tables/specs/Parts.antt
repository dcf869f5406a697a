-- The parts of a state: its tables, and what undoes its blocks.
use Rattle.std.specs.Prelude.{List, map, reverse}
use Rattle.chain_names.specs.Seen.{seen_undo}
use Rattle.chain_names.specs.Undo.{UndoRecord}
use Rattle.chain_names.specs.declared.undo.Undo.{Undo}
use Rattle.name_tables.specs.declared.parts.Parts.{Parts}
use Rattle.name_tables.specs.declared.tables.Tables.{Tables}

abbrev pub tables_of : Parts → Tables
tables_of parts = record { coins = parts.coins; names = parts.names; queue = parts.queue }

-- the records as the code keeps them, the oldest first, without the room of their lists
abbrev pub newest_first : List Undo → List UndoRecord
newest_first undos = reverse (map seen_undo undos)
