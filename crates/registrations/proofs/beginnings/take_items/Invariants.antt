use Rattle.std.proofs.Common.{◌≡◌, ◌≤◌, length}
use Rattle.std.specs.Map.{keys_of}
use Rattle.chain_names.specs.Tables.{names_in}
use Rattle.registrations.proofs.BeginningLemmas.{IsEmptying}
use Rattle.registrations.proofs.beginnings.take_items.Given as goal

abbrev pub invariant-loop-item : goal.invariant-loop-item
invariant-loop-item g l = record {
  room : length (names_in l.names l.name) ≤ l.items.spare;
  going : IsEmptying (names_in l.fn.names) (names_in l.names) l.name l.items.items;
  list : keys_of l.names ≡ keys_of l.fn.names;
}

abbrev pub decreases-loop-item : goal.decreases-loop-item
decreases-loop-item g l = length (names_in l.names l.name)
