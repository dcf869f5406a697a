-- What is done to a mirror, counted in steps. Each look-up, write and removal of a coin, a name or a record of the mirror is one, and so is
-- each look-up in a table of the index for it. A step stands for one way down through a map. What is done to the items of one name is none,
-- and neither are a pin and the letting go of what was pinned.
use Rattle.std.specs.Prelude.{ℕ, ◌+◌, ◌*◌, List, length}
use Rattle.chain_names.specs.Undo.{UndoRecord}
use Rattle.chain_state.specs.Chain.{Indexed}
use Rattle.chain_state.specs.StageBack.{newest_work}

-- of a block that joins: nine for each of its operations and for each coin that expired with it, and one
abbrev pub forth_cost : List UndoRecord → ℕ
forth_cost undos = 9 * newest_work undos + 1

-- of a block that leaves: six likewise, and three
abbrev pub back_cost : List UndoRecord → ℕ
back_cost undos = 6 * newest_work undos + 3

-- of a whole mirror: one for each record, three for each coin and each name, and two
abbrev pub making_cost : Indexed → ℕ
making_cost index = length index.undos + 3 * (length index.tables.coins + length index.tables.names) + 2
