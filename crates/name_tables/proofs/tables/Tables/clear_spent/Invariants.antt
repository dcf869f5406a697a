use Rattle.std.proofs.Common.{◌+◌, ◌*◌, ◌≤◌, List, length}
use Rattle.chain_names.specs.declared.coin.HeldCoin.{HeldCoin}
use Rattle.name_tables.specs.Places.{AreFilledBut}
use Rattle.name_tables.specs.Tables.{HoldSame}
use Rattle.name_tables.proofs.tables.Tables.clear_spent.Given as goal

abbrev pub invariant-loop-rest : goal.invariant-loop-rest
invariant-loop-rest g l =
    HoldSame l.fn.self l.self
    × ((expired : List HeldCoin) → AreFilledBut l.fn.self l.ops expired → AreFilledBut l.self l.rest expired)
    × (l.steps + 2 * length l.rest ≤ l.fn.steps + 2 * length l.ops)

abbrev pub decreases-loop-rest : goal.decreases-loop-rest
decreases-loop-rest g l = length l.rest
