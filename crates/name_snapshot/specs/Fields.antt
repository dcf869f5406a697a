-- What the readers of the code give, as the readers on lists give it.
use Rattle.name_snapshot.specs.Text.{Told, commitment, value, StartMake}
use Rattle.name_snapshot.specs.declared.found.FoundTold.{FoundTold}
use Rattle.name_snapshot.specs.declared.found.FoundTold.TheVariants.{Commitment, Value}
use Rattle.name_snapshot.specs.declared.found.FoundMake.{FoundMake}

abbrev pub seen_told : FoundTold → Told
seen_told (Commitment hash) = commitment hash.0
seen_told (Value name bytes) = value name.now bytes.now

abbrev pub seen_make : FoundMake → StartMake
seen_make m = record { at = m.at; height = m.height; told = seen_told m.told }
