use Rattle.std.proofs.Common.{◌≡◌, ◌++◌, length}
use Rattle.std.specs.List.{flat_map, AllByRecursion}
use Rattle.undo_records.specs.declared.version.Version.TheVariants.{Two}
use Rattle.undo_records.specs.Text.{op_text}
use Rattle.chain_names.specs.Limits.{IsWithinLimitsOp}
use Rattle.undo_records.proofs.text.add_ops.Given as goal

abbrev pub invariant-loop-rest : goal.invariant-loop-rest
invariant-loop-rest l = (l.out ++ flat_map (op_text Two) l.rest ≡ l.initial.out ++ flat_map (op_text Two) l.ops) × AllByRecursion IsWithinLimitsOp l.rest

abbrev pub decreases-loop-rest : goal.decreases-loop-rest
decreases-loop-rest l = length l.rest
