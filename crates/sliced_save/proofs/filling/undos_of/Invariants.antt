use Rattle.std.proofs.Common.{◌≡◌, ◌+◌, ◌≤◌, ◌++◌, length, map}
use Rattle.std.specs.List.{AllByRecursion}
use Rattle.chain_names.specs.Limits.{IsWithinLimits}
use Rattle.chain_names.specs.Seen.{seen_undo}
use Rattle.sliced_save.proofs.filling.undos_of.Given as goal

abbrev pub invariant-loop-rest : goal.invariant-loop-rest
invariant-loop-rest g l = AllByRecursion IsWithinLimits (map seen_undo l.rest) × (l.made ++ map seen_undo l.rest ≡ map seen_undo l.undos) × (l.initial.steps ≤ l.steps) × (l.steps + length l.rest ≤ l.initial.steps + length l.undos)

abbrev pub decreases-loop-rest : goal.decreases-loop-rest
decreases-loop-rest g l = length l.rest
