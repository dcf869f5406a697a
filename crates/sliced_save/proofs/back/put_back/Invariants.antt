use Rattle.std.proofs.Common.{◌≡◌, ◌+◌, ◌*◌, ◌≤◌, length}
use Rattle.std.specs.List.{AllByRecursion}
use Rattle.chain_names.specs.Changes.{restored}
use Rattle.chain_names.specs.Limits.{HoldsName}
use Rattle.sliced_save.specs.Mirror.{coin_at}
use Rattle.sliced_save.proofs.back.put_back.Given as goal

abbrev pub invariant-loop-held : goal.invariant-loop-held
invariant-loop-held g l = AllByRecursion HoldsName l.rest × (restored l.rest (coin_at l.coins) ≡ restored l.helds (coin_at l.fn.coins)) × (l.steps + 2 * length l.rest ≤ l.initial.steps + 2 * length l.helds)

abbrev pub decreases-loop-held : goal.decreases-loop-held
decreases-loop-held g l = length l.rest
