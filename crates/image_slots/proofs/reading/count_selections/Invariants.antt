use Rattle.std.proofs.Common.{◌≡◌, ◌-◌}
use Rattle.std.specs.Prelude.{IsTrue}
use Rattle.fault_counts.specs.Faults.{NeverFell}
use Rattle.disk_model.specs.Moments.{EachMoment}
use Rattle.disk_model.specs.Changes.{Unchanged}
use Rattle.disk_model.specs.DiskSeen.{NoneFailed, bytes_in, file_in}
use Rattle.gate_journal.specs.Stand.{IsReadable}
use Rattle.image_slots.specs.Selections.{selections_file}
use Rattle.image_slots.proofs.CountLemmas.{HasCounted}
use Rattle.image_slots.proofs.reading.count_selections.Given as goal

abbrev pub invariant-selections : goal.invariant-selections
invariant-selections g l =
    let old = g.D.Disk.seen l.fn.disk in
    let now = g.D.Disk.seen l.disk in
    record {
      counted : HasCounted g.D.Disk.tells l.at l.most (bytes_in old selections_file) l.journal l.count;
      readable : IsTrue g.D.Disk.tells → IsReadable l.journal (file_in now selections_file);
      time : IsTrue g.D.Disk.tells → EachMoment (Unchanged old.moments.now) old.moments now.moments;
      reads : now.changes ≡ old.changes;
      later : NeverFell old.faults now.faults;
      none : NoneFailed old now;
    }

abbrev pub decreases-selections : goal.decreases-selections
decreases-selections g l = l.most - l.count
