use Rattle.std.proofs.Common.{◌≡◌, ◌<◌, ◌≤◌, ◌&&◌, ℕ, false, length}
use Rattle.std.specs.Prelude.{slice_index_or}
use Rattle.memory_disk.specs.Touched.{leaves}
use Rattle.memory_disk.specs.Kept.{touched_of}
use Rattle.memory_disk.proofs.replay.keep_left.Given as goal

abbrev pub invariant-loop-p : goal.invariant-loop-p
invariant-loop-p l = record {
  done : (k : ℕ) → k < l.p → slice_index_or l.settled k false ≡ (slice_index_or l.initial.settled k false && leaves (touched_of l.touched) k);
  rest : (k : ℕ) → l.p ≤ k → slice_index_or l.settled k false ≡ slice_index_or l.initial.settled k false;
  size : length l.settled ≡ length l.initial.settled;
}
