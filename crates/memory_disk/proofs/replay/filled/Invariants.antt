use Rattle.std.proofs.Common.{◌≡◌, ◌<◌, ℕ, false, length}
use Rattle.std.specs.Prelude.{slice_index, slice_index_or, if◌then◌else◌}
use Rattle.memory_disk.proofs.replay.filled.Given as goal

abbrev pub invariant-loop-p : goal.invariant-loop-p
invariant-loop-p l = record {
  size : length l.image.items ≡ l.p;
  bytes : (k : ℕ) → k < l.p → slice_index l.image.items k ≡ (if slice_index_or l.settled k false then slice_index l.bytes k else l.byte);
}
