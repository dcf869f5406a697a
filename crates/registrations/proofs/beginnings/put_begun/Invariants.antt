use Rattle.std.proofs.Common.{◌≡◌, ◌≤◌, true, length}
use Rattle.std.specs.Map.{keys_of}
use Rattle.chain_names.specs.Tables.{names_in, name_places, room_in}
use Rattle.registrations.proofs.BeginningLemmas.{IsRefilling}
use Rattle.registrations.proofs.beginnings.put_begun.Given as goal

abbrev pub invariant-loop-item : goal.invariant-loop-item
invariant-loop-item g l = record {
  placed : name_places l.names l.name ≡ true;
  room : length l.items.items ≤ room_in l.names l.name;
  going : IsRefilling (names_in l.fn.names) (names_in l.names) l.name l.fn.items.items l.items.items;
  list : keys_of l.names ≡ keys_of l.fn.names;
}

abbrev pub decreases-loop-item : goal.decreases-loop-item
decreases-loop-item g l = length l.items.items
