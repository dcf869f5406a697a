-- A file as it is built again from the calls that a disk in memory keeps.
use Rattle.std.specs.Prelude.{◌≡◌, ℕ, false, List, slice_index_or}
use Rattle.disk_model.specs.FileState.{FileState}
use Rattle.memory_disk.specs.declared.replay.Replay.{Replay}

-- it stands for the file, and has what the last sync left
pub record IsReplayed (replay : Replay) (last : List ℕ) (file : FileState) : Type 0 where
  pub bytes : replay.bytes.items ≡ file.bytes
  pub last_sync : replay.last_sync.items ≡ last
  pub settled : (p : ℕ) → slice_index_or replay.settled.items p false ≡ file.settled p
  pub greatest : replay.greatest ≡ file.greatest
