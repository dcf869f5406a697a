use Rattle.std.proofs.Common.{◌≡◌, ◌≤◌, length}
use Rattle.std.specs.Map.{keys_of}
use Rattle.chain_names.specs.Tables.{names_in}
use Rattle.registrations.proofs.TakingLemmas.{IsTaking}
use Rattle.registrations.proofs.taking.take_ops.Given as goal

abbrev pub invariant-loop-op : goal.invariant-loop-op
invariant-loop-op g l = record {
  room : length l.ops.items ≤ l.back.spare;
  going : IsTaking l.fn.ops.items (names_in l.fn.names) l.ops.items (names_in l.names) l.back.items;
  list : keys_of l.names ≡ keys_of l.fn.names;
}

abbrev pub decreases-loop-op : goal.decreases-loop-op
decreases-loop-op g l = length l.ops.items
