use Rattle.std.proofs.Common.{◌≡◌, take}
use Rattle.std.specs.Map.{keys_of}
use Rattle.chain_names.specs.Tables.{names_in}
use Rattle.registrations.proofs.BeginningLemmas.{IsBeginning}
use Rattle.registrations.proofs.beginnings.begin_all.Given as goal

abbrev pub invariant-loop-i : goal.invariant-loop-i
invariant-loop-i g l = record {
  going : IsBeginning (take l.i (keys_of l.fn.names)) (names_in l.fn.names) (names_in l.names);
  list : keys_of l.names ≡ keys_of l.fn.names;
}
