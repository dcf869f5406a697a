use Rattle.std.proofs.Common.{◌≡◌, List, length}
use Rattle.name_snapshot.specs.Standing.{IsBehind}
use Rattle.name_snapshot.specs.Text.{StartMake}
use Rattle.name_snapshot.specs.Turning.{GoesOn}
use Rattle.name_snapshot.proofs.reading.Reading.read.Given as goal

abbrev pub invariant-loop-after : goal.invariant-loop-after
invariant-loop-after l = record {
  goes : (below : List StartMake) → IsBehind below l.initial.self → GoesOn below l.initial.self l.bytes l.self l.rest;
  base : l.self.base ≡ l.initial.self.base;
}

abbrev pub decreases-loop-after : goal.decreases-loop-after
decreases-loop-after l = length l.rest
