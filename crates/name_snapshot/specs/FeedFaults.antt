-- The fault of a snapshot as one of its reading.
use Rattle.name_snapshot.specs.declared.fault.SnapshotFault.{SnapshotFault}
use Rattle.name_snapshot.specs.declared.fault.SnapshotFault.TheVariants as snapshot
use Rattle.name_snapshot.specs.declared.feed_fault.FeedFault.{FeedFault}
use Rattle.name_snapshot.specs.declared.feed_fault.FeedFault.TheVariants.{Bad, NoMemory}

abbrev pub of_snapshot : SnapshotFault → FeedFault
of_snapshot (snapshot.Bad at) = Bad at
of_snapshot snapshot.NoMemory = NoMemory
