-- Faults of the parts of an opening as those of the whole.
use Rattle.std.specs.Prelude.{ℕ}
use Rattle.gate_journal.specs.declared.faults.JournalFault.{JournalFault}
use Rattle.gate_journal.specs.declared.faults.JournalFault.TheVariants as journal
use Rattle.image_slots.specs.declared.faults.SlotFault.{SlotFault}
use Rattle.image_slots.specs.declared.faults.SlotFault.TheVariants as slots
use Rattle.image_files.specs.declared.fault.ReadFault.{ReadFault}
use Rattle.image_files.specs.declared.fault.ReadFault.TheVariants as image
use Rattle.name_store.specs.declared.faults.OpenFault.{OpenFault}
use Rattle.name_store.specs.declared.faults.OpenFault.TheVariants.{Damaged, DiskFault, NoMemory}

-- of the commands in a file
abbrev pub of_journal : ℕ → JournalFault → OpenFault
of_journal file journal.DiskFault = DiskFault
of_journal file (journal.Damaged at) = Damaged file at
of_journal file journal.NoMemory = NoMemory

-- of the selections, which stand in the header's file
abbrev pub of_slots : SlotFault → OpenFault
of_slots slots.DiskFault = DiskFault
of_slots (slots.Damaged at) = Damaged 0 at
of_slots slots.NoMemory = NoMemory

-- of the image in a file
abbrev pub of_image : ℕ → ReadFault → OpenFault
of_image file image.DiskFault = DiskFault
of_image file (image.Damaged at) = Damaged file at
of_image file image.NoMemory = NoMemory
