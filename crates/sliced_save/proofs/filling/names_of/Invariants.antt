use Rattle.std.proofs.Common.{◌+◌, ◌*◌, ◌≤◌, []}
use Rattle.std.specs.Map.{keys_of}
use Rattle.std.specs.Str.{bytes_eq}
use Rattle.chain_names.specs.Tables.{names_in}
use Rattle.sliced_save.specs.Filling.{IsFilled}
use Rattle.sliced_save.specs.Mirror.{items_at}
use Rattle.sliced_save.proofs.filling.names_of.Given as goal

abbrev pub invariant-loop-i : goal.invariant-loop-i
invariant-loop-i g l = IsFilled bytes_eq (names_in l.table) [] (keys_of l.table) (items_at l.names) l.i × (l.initial.steps + l.i ≤ l.steps) × (l.steps ≤ l.initial.steps + 3 * l.i)
