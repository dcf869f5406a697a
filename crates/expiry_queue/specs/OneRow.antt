-- What is read of one row of the queue.
use Rattle.std.specs.Prelude.{Bool, List}
use Rattle.std.specs.Map.{lookup}
use Rattle.std.specs.Option.{is_some}
use Rattle.nmc_base.specs.declared.hashes.OutPoint.{OutPoint}
use Rattle.chain_names.specs.Points.{same_point}
use Rattle.chain_names.specs.Tables.{is_filled}

-- each outpoint that has a place, and whether it is filled
abbrev pub RowSlots : Type 0
RowSlots = List (OutPoint × Bool)

-- whether an outpoint is queued in the row
abbrev pub row_queued : RowSlots → OutPoint → Bool
row_queued row = λ point. is_filled (lookup (same_point point) row)

-- whether an outpoint has a place in the row
abbrev pub row_places : RowSlots → OutPoint → Bool
row_places row = λ point. is_some (lookup (same_point point) row)
