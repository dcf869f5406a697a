use Rattle.std.proofs.Common.{◌≡◌, ◌-◌}
use Rattle.std.specs.Prelude.{IsTrue}
use Rattle.fault_counts.specs.Faults.{NeverFell}
use Rattle.disk_model.specs.Moments.{EachMoment}
use Rattle.disk_model.specs.Changes.{Unchanged}
use Rattle.disk_model.specs.DiskSeen.{NoneFailed, file_in, bytes_in}
use Rattle.gate_journal.specs.Stand.{IsReadable}
use Rattle.index_commands.specs.Commands.{Origin}
use Rattle.index_commands.specs.Reading.{HasFollowed, IsInArea}
use Rattle.index_commands.proofs.reading.read_all.Given as goal

abbrev pub invariant-records : goal.invariant-records
invariant-records g l =
    let old = g.D.Disk.seen l.fn.disk in
    let now = g.D.Disk.seen l.disk in
    let file = l.fn.file in
    record {
      followed : (first : Origin) → HasFollowed g.D.Disk.tells l.fn.reading.journal.limit first (bytes_in old file) l.fn.reading.chain l.fn.reading.journal.length → HasFollowed g.D.Disk.tells l.fn.reading.journal.limit first (bytes_in old file) l.reading.chain l.reading.journal.length;
      area : IsInArea l.fn.reading.journal.limit file l.reading.journal;
      readable : IsTrue g.D.Disk.tells → IsReadable l.reading.journal (file_in now file);
      time : IsTrue g.D.Disk.tells → EachMoment (Unchanged old.moments.now) old.moments now.moments;
      reads : now.changes ≡ old.changes;
      later : NeverFell old.faults now.faults;
      none : NoneFailed old now;
    }

-- each step moves the journal on
abbrev pub decreases-records : goal.decreases-records
decreases-records g l = l.fn.reading.journal.limit - l.reading.journal.length
