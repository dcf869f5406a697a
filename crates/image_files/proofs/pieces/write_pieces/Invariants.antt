use Rattle.std.proofs.Common.{◌≡◌, ℕ, ◌+◌, List, length}
use Rattle.std.specs.Prelude.{IsTrue}
use Rattle.fault_counts.specs.Faults.{NeverFell}
use Rattle.disk_model.specs.Moments.{EachMoment}
use Rattle.disk_model.specs.Changes.{LeavesOthers}
use Rattle.disk_model.specs.DiskSeen.{NoneFailed, bytes_in}
use Rattle.image_files.specs.Pieces.{IsDrafted}
use Rattle.image_files.proofs.pieces.write_pieces.Given as goal

abbrev pub invariant-pieces : goal.invariant-pieces
invariant-pieces g l =
    let old = g.D.Disk.seen l.fn.disk in
    let now = g.D.Disk.seen l.disk in
    record {
      file : l.draft.file ≡ l.fn.draft.file;
      image : l.draft.image ≡ l.fn.draft.image;
      room : l.draft.written + length l.text ≡ l.draft.image;
      holds : IsTrue g.D.Disk.tells → (image : List ℕ) → IsDrafted image l.fn.draft l.fn.text (bytes_in old l.fn.draft.file) → IsDrafted image l.draft l.text (bytes_in now l.draft.file);
      others : IsTrue g.D.Disk.tells → EachMoment (LeavesOthers l.fn.draft.file old.moments.now) old.moments now.moments;
      later : NeverFell old.faults now.faults;
      none : NoneFailed old now;
    }

abbrev pub decreases-pieces : goal.decreases-pieces
decreases-pieces g l = length l.text
