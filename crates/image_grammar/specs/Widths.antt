-- A base, the records above it and a state are as wide as their fields.
use Rattle.std.specs.Prelude.{◌≡◌, List, length}
use Rattle.std.specs.List.{AllByRecursion}
use Rattle.nmc_base.specs.declared.chain_ends.Base.{Base}
use Rattle.chain_names.specs.Coins.{Maps}
use Rattle.chain_names.specs.Measured.{AreMeasured}
use Rattle.chain_names.specs.Undo.{UndoRecord}
use Rattle.undo_records.specs.Measured.{IsMeasured}

pub record HaveWidths (base : Base) (undos : List UndoRecord) (maps : Maps) : Type 0 where
  pub hash : length base.hash.0 ≡ 32
  pub undos_are : AllByRecursion IsMeasured undos
  pub maps_are : AreMeasured maps
