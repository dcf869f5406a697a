use Rattle.std.proofs.Common.{◌≡◌, ◌≤◌, length}
use Rattle.std.specs.Map.{keys_of}
use Rattle.chain_names.specs.Tables.{names_in}
use Rattle.registrations.proofs.TakingLemmas.{IsTakingUndos}
use Rattle.registrations.proofs.taking.take_undos.Given as goal

abbrev pub invariant-loop-undo : goal.invariant-loop-undo
invariant-loop-undo g l = record {
  room : length l.undos.items ≤ l.back.spare;
  going : IsTakingUndos l.fn.undos.items (names_in l.fn.names) l.undos.items (names_in l.names) l.back.items;
  list : keys_of l.names ≡ keys_of l.fn.names;
}

abbrev pub decreases-loop-undo : goal.decreases-loop-undo
decreases-loop-undo g l = length l.undos.items
