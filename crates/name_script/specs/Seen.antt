-- Name operations, without where their bytes lie in memory.
use Rattle.name_script.specs.declared.operation.NameOp.{NameOp}
use Rattle.name_script.specs.declared.operation.NameOp.TheVariants.{New, First, Update}
use Rattle.name_script.specs.NameScript.{NameOperation, name_new, name_firstupdate, name_update}

abbrev pub seen_operation : NameOp → NameOperation
seen_operation (New hash) = name_new hash.now
seen_operation (First name rand value) = name_firstupdate name.now rand.now value.now
seen_operation (Update name value) = name_update name.now value.now
