use Rattle.std.proofs.Common.{◌≡◌, drop}
use Rattle.std.specs.Map.{lookup}
use Rattle.chain_names.specs.Points.{same_point}
use Rattle.table_trials.proofs.verdicts.held.HeldNameView.coin.Given as goal

abbrev pub invariant-loop-point : goal.invariant-loop-point
invariant-loop-point g l =
    lookup (same_point l.at) (drop l.point-index l.point-items) ≡ lookup (same_point l.at) l.fn.self.coins.now
