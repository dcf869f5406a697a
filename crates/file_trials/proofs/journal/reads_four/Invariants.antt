use Rattle.std.specs.Prelude.{IsTrue}
use Rattle.gate_journal.specs.Stand.{IsReadable}
use Rattle.file_trials.proofs.journal.reads_four.Given as goal
use Rattle.disk_model.specs.DiskSeen.{file_in}

abbrev pub invariant-records : goal.invariant-records
invariant-records g l = IsTrue g.D.Disk.tells → IsReadable l.journal (file_in (g.D.Disk.seen l.disk) l.journal.file)
