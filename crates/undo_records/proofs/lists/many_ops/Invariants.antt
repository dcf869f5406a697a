use Rattle.std.proofs.Common.{◌≡◌, ◌-◌}
use Rattle.block_grammar.specs.Combinators.{many_from}
use Rattle.undo_records.specs.Reading.{op_from}
use Rattle.undo_records.proofs.Loops.{behind}
use Rattle.undo_records.proofs.lists.many_ops.Given as goal

abbrev pub invariant-loop : goal.invariant-loop
invariant-loop l = behind l.ops.items (many_from (op_from l.version) (l.count - l.counter) l.rest) ≡ many_from (op_from l.version) l.count l.bytes
