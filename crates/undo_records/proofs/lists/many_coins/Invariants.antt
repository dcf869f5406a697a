use Rattle.std.proofs.Common.{◌≡◌, ◌-◌, None}
use Rattle.undo_records.specs.Reading.{coins_from}
use Rattle.undo_records.proofs.Loops.{behind}
use Rattle.undo_records.proofs.lists.many_coins.Given as goal

abbrev pub invariant-loop : goal.invariant-loop
invariant-loop l = behind l.coins.items (coins_from l.last (l.count - l.counter) l.rest) ≡ coins_from None l.count l.bytes
