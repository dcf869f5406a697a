-- What a text is: a snapshot, or one with a first fault.
use Rattle.std.specs.Prelude.{◌≡◌, ℕ, List, [], Result, Ok, Err}
use Rattle.nmc_base.specs.declared.chain_ends.Base.{Base}
use Rattle.chain_names.specs.Index.{index_maps}
use Rattle.chain_names.specs.Start.{IsStart}
use Rattle.chain_names.specs.Tables.{coins_in, queued_in, queue_of}
use Rattle.name_tables.specs.Parts.{tables_of}
use Rattle.name_tables.specs.Tables.{maps_by, AreFilled}
use Rattle.name_tables.specs.declared.parts.Parts.{Parts}
use Rattle.name_snapshot.specs.Faults.{HasFault}
use Rattle.name_snapshot.specs.Makes.{IsSnapshot}
use Rattle.name_snapshot.specs.Text.{StartMake, start_of}
use Rattle.name_snapshot.specs.declared.fault.SnapshotFault.{SnapshotFault}
use Rattle.name_snapshot.specs.declared.fault.SnapshotFault.TheVariants.{Bad, NoMemory}

-- the text is a snapshot, and the parts are the index of the chain of no blocks that starts with its makes
pub record HasStart (base : Base) (text : List ℕ) (parts : Parts) : Type 0 where
  pub makes : List StartMake
  pub is_snapshot : IsSnapshot base text makes
  pub is_start : IsStart base.profile base.height (start_of makes)
  pub maps_are : maps_by (tables_of parts) ≡ index_maps base.profile (start_of makes) base.height []
  pub queue : queued_in parts.queue ≡ queue_of (coins_in parts.coins)
  pub filled : AreFilled (tables_of parts)
  pub no_undos : parts.undos.items ≡ []

abbrev pub IsSnapshotAnswer : Base → List ℕ → Result Parts SnapshotFault → Type 0
IsSnapshotAnswer base text (Ok parts) = HasStart base text parts
IsSnapshotAnswer base text (Err (Bad at)) = HasFault base text at
IsSnapshotAnswer base text (Err NoMemory) = Unit {0}
