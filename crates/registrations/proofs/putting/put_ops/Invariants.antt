use Rattle.std.proofs.Common.{◌≤◌, length}
use Rattle.chain_names.specs.Tables.{names_in}
use Rattle.registrations.specs.Places.{PlacesFilled}
use Rattle.registrations.proofs.PuttingLemmas.{IsPutting}
use Rattle.registrations.proofs.putting.put_ops.Given as goal

abbrev pub invariant-loop-taken : goal.invariant-loop-taken
invariant-loop-taken g l = record {
  room : length l.back.items ≤ l.ops.spare;
  going : IsPutting l.fn.back.items (names_in l.fn.names) l.back.items (names_in l.names) l.ops.items;
  places : PlacesFilled l.fn.names l.names;
}

abbrev pub decreases-loop-taken : goal.decreases-loop-taken
decreases-loop-taken g l = length l.back.items
