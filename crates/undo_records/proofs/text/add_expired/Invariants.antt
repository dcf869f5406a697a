use Rattle.std.proofs.Common.{◌≡◌, ◌++◌, length}
use Rattle.std.specs.List.{flat_map, AllByRecursion}
use Rattle.undo_records.specs.Text.{held_text}
use Rattle.chain_names.specs.Limits.{HoldsName}
use Rattle.undo_records.proofs.text.add_expired.Given as goal

abbrev pub invariant-loop-rest : goal.invariant-loop-rest
invariant-loop-rest l = (l.out ++ flat_map held_text l.rest ≡ l.initial.out ++ flat_map held_text l.expired) × AllByRecursion HoldsName l.rest

abbrev pub decreases-loop-rest : goal.decreases-loop-rest
decreases-loop-rest l = length l.rest
