-- The object that one holds alone, or shares.
use Rattle.ifa_value.specs.declared.object.IfaObject.{IfaObject}
use Rattle.import_expand.specs.declared.shared_object.Holding.{Holding}
use Rattle.import_expand.specs.declared.shared_object.Holding.TheVariants.{Alone, Shared}

abbrev pub object_held : Holding → IfaObject
object_held (Alone o) = o
object_held (Shared s) = s.value
