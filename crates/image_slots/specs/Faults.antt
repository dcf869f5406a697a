-- The faults of a journal as those of slots.
use Rattle.gate_journal.specs.declared.faults.JournalFault.{JournalFault}
use Rattle.gate_journal.specs.declared.faults.JournalFault.TheVariants as journal
use Rattle.image_slots.specs.declared.faults.SlotFault.{SlotFault}
use Rattle.image_slots.specs.declared.faults.SlotFault.TheVariants.{DiskFault, Damaged, NoMemory}

abbrev pub of_journal : JournalFault → SlotFault
of_journal journal.DiskFault = DiskFault
of_journal (journal.Damaged at) = Damaged at
of_journal journal.NoMemory = NoMemory
