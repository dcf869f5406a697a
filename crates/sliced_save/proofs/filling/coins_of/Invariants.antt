use Rattle.std.proofs.Common.{◌+◌, ◌*◌, ◌≤◌, None}
use Rattle.std.specs.Map.{keys_of}
use Rattle.chain_names.specs.Points.{same_point}
use Rattle.chain_names.specs.Tables.{coins_in}
use Rattle.sliced_save.specs.Filling.{IsFilled}
use Rattle.sliced_save.specs.Mirror.{coin_at}
use Rattle.sliced_save.proofs.filling.coins_of.Given as goal

abbrev pub invariant-loop-i : goal.invariant-loop-i
invariant-loop-i g l = IsFilled same_point (coins_in l.table) None (keys_of l.table) (coin_at l.coins) l.i × (l.initial.steps + l.i ≤ l.steps) × (l.steps ≤ l.initial.steps + 3 * l.i)
