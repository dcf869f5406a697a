-- Answers to the same bytes.
use Rattle.std.specs.Prelude.{◌≡◌, Result, Ok, Err}
use Rattle.name_tables.specs.Parts.{tables_of}
use Rattle.name_tables.specs.Tables.{maps_by}
use Rattle.name_tables.specs.declared.parts.Parts.{Parts}
use Rattle.name_snapshot.specs.declared.feed_fault.FeedFault.{FeedFault}
use Rattle.name_snapshot.specs.declared.feed_fault.FeedFault.TheVariants.{Bad, SourceFault, InputLimit, NoMemory}

-- neither the source nor want of memory ended the reading
abbrev pub IsOfTheBytes : Result Parts FeedFault → Type 0
IsOfTheBytes (Ok parts) = Unit {0}
IsOfTheBytes (Err (Bad at)) = Unit {0}
IsOfTheBytes (Err SourceFault) = ⊥
IsOfTheBytes (Err InputLimit) = Unit {0}
IsOfTheBytes (Err NoMemory) = ⊥

-- the index of the same chain, the same place, or both the limit
abbrev pub SameAnswer : Result Parts FeedFault → Result Parts FeedFault → Type 0
SameAnswer (Ok parts) (Ok others) = maps_by (tables_of parts) ≡ maps_by (tables_of others)
SameAnswer (Err (Bad at)) (Err (Bad other)) = at ≡ other
SameAnswer (Err InputLimit) (Err InputLimit) = Unit {0}
SameAnswer answer second = ⊥
