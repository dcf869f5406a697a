-- Keeping a command: its record is appended to the area.
use Rattle.std.specs.Prelude.{◌≡◌, ◌⊎◌, ℕ, ◌+◌, Bool, IsTrue, List, [], ◌∷◌, ◌++◌, length, Result, OnOk, IfOk}
use Rattle.disk_model.specs.FileState.{IsFileImage, IsSettled}
use Rattle.disk_model.specs.Moments.{Files, EachMoment}
use Rattle.disk_model.specs.Changes.{LeavesOthers}
use Rattle.disk_model.specs.DiskSeen.{DiskSeen, Ends, file_in, bytes_in}
use Rattle.disk_model.specs.declared.disk.Failed.{Failed}
use Rattle.gate_journal.specs.Records.{IsArea, records_text, image_front}

-- The file has this image and these records, and the closed gate behind them is the last byte of an area of this length.
pub record HoldsRecords (area : ℕ) (image : List ℕ) (records : List (List ℕ)) (file : List ℕ) : Type 0 where
  pub is_area : IsArea image records file
  pub length_is : area ≡ length (image_front image ++ records_text records) + 1

-- A crash leaves the image with the records, or with these and one more; no other file has changed.
pub record KeepsOrAdds (file : ℕ) (image : List ℕ) (records : List (List ℕ)) (record_is : List ℕ) (old files : Files) : Type 0 where
  pub image_is : (crashed : List ℕ) → IsFileImage (files file) crashed → IsArea image records crashed ⊎ IsArea image (records ++ record_is ∷ []) crashed
  pub others : LeavesOthers file old files

-- The record was appended to the area of this length in this file, and its new length is told; or the disk failed. The other files are
-- as they were at each moment, whatever the area holds.
pub record Keeps (tells : Bool) (file area : ℕ) (record_is : List ℕ) (old new : DiskSeen) (result : Result ℕ Failed) : Type 0 where
  pub longer : IfOk result (λ n. n ≡ area + 5 + length record_is)
  pub settled : IsTrue tells → OnOk result (IsSettled (file_in new file))
  pub added : IsTrue tells → (image : List ℕ) (records : List (List ℕ)) → HoldsRecords area image records (bytes_in old file)
      → OnOk result (IsArea image (records ++ record_is ∷ []) (bytes_in new file))
  pub any_moment : IsTrue tells → (image : List ℕ) (records : List (List ℕ)) → HoldsRecords area image records (bytes_in old file)
      → EachMoment (KeepsOrAdds file image records record_is old.moments.now) old.moments new.moments
  pub others : IsTrue tells → EachMoment (LeavesOthers file old.moments.now) old.moments new.moments
  pub ends : Ends old new result
