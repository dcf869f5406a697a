-- What opening answers of files that stand for a run state.
use Rattle.std.proofs.Common.{Ok, Err}
use Rattle.std.specs.Prelude.{Result}
use Rattle.disk_model.specs.Moments.{Files}
use Rattle.chain_commands.specs.RunState.{RunState}
use Rattle.name_store.specs.declared.faults.OpenFault.{OpenFault}
use Rattle.name_store.specs.declared.faults.OpenFault.TheVariants as faults
use Rattle.name_store.specs.Opening.{OpenAnswer, OpensFor}
use Rattle.name_store.specs.Stands.{Bytes, Stands}
use Rattle.name_store.specs.Stored.{Stored}
use Rattle.name_store.proofs.RunLemmas.{standing_header}
use Rattle.name_store.proofs.DamageLaws.{standing_undamaged}

-- a fault of the files is no answer of such files
pub opens_for : (old : Bytes) (new : Files) (result : Result Stored OpenFault) → OpenAnswer old new result → (run : RunState) → Stands old run → OpensFor run result
opens_for old new (Ok it) opened run stands = opened.follows run stands
opens_for old new (Err faults.Uninitialised) not run stands = not (standing_header old run stands).initialised
opens_for old new (Err (faults.Damaged file at)) damaged run stands = standing_undamaged old run stands file at damaged
opens_for old new (Err faults.DiskFault) is run stands = tt
opens_for old new (Err faults.NoMemory) is run stands = tt
