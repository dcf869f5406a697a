-- What the opening of a lister gives.
use Rattle.std.specs.Prelude.{Result, Ok, Err}
use Rattle.name_store.specs.Stored.{Stored}
use Rattle.name_store.specs.declared.faults.OpenFault.{OpenFault}
use Rattle.name_lister.specs.Lister.{Listed}

-- the store of a lister that was opened, or the fault
abbrev pub store_of : Result Listed OpenFault → Result Stored OpenFault
store_of (Ok lister) = Ok lister.bridge.store
store_of (Err fault) = Err fault
