use Rattle.std.proofs.Common.{◌≡◌, ℕ, ◌<◌, length, get_or}
use Rattle.import_expand.specs.Labels.{mark_at, IsMark}
use Rattle.import_expand.proofs.labels.marks_of.Given as goal

abbrev pub invariant-loop-at : goal.invariant-loop-at
invariant-loop-at l = record {
  size : length l.marks ≡ 256;
  marked : (k : ℕ) → k < l.at → IsMark k (get_or l.marks (mark_at l.factor (get_or l.numbers k 0)) 0);
}
