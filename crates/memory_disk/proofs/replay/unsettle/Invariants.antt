use Rattle.std.proofs.Common.{◌≡◌, ◌<◌, ◌≤◌, ◌+◌, ◌&&◌, ◌||◌, ℕ, false, length}
use Rattle.std.specs.Prelude.{slice_index_or, nat_lt, nat_le}
use Rattle.memory_disk.proofs.replay.unsettle.Given as goal

abbrev pub invariant-loop-p : goal.invariant-loop-p
invariant-loop-p l = record {
  done : (k : ℕ) → k < l.p → slice_index_or l.settled k false ≡ (slice_index_or l.initial.settled k false && (nat_lt k l.at || nat_le (l.at + l.count) k));
  rest : (k : ℕ) → l.p ≤ k → slice_index_or l.settled k false ≡ slice_index_or l.initial.settled k false;
  size : length l.settled ≡ length l.initial.settled;
}
