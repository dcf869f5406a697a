use Rattle.std.proofs.Common.{◌≡◌, ◌-◌, ◌≤◌}
use Rattle.std.specs.Prelude.{IsTrue, IsFalse}
use Rattle.fault_counts.specs.Faults.{NeverFell}
use Rattle.disk_model.specs.Moments.{EachMoment}
use Rattle.disk_model.specs.Changes.{Unchanged}
use Rattle.disk_model.specs.DiskSeen.{NoneFailed, bytes_in}
use Rattle.image_files.specs.Reading.{HasFed}
use Rattle.image_files.proofs.feeding.feed_image.Given as goal

abbrev pub invariant-pieces : goal.invariant-pieces
invariant-pieces g l =
    let old = g.D.Disk.seen l.fn.disk in
    let now = g.D.Disk.seen l.disk in
    record {
      fed : l.loader.fed ≡ l.fed;
      low : l.fed ≤ l.image;
      total : l.loader.total ≡ l.image;
      has_fed : HasFed g.D.Disk.tells (bytes_in old l.fn.file) l.loader;
      worked : IsFalse now.failed;
      none : NoneFailed old now;
      time : IsTrue g.D.Disk.tells → EachMoment (Unchanged old.moments.now) old.moments now.moments;
      reads : now.changes ≡ old.changes;
      later : NeverFell old.faults now.faults;
    }

abbrev pub decreases-pieces : goal.decreases-pieces
decreases-pieces g l = l.image - l.fed
