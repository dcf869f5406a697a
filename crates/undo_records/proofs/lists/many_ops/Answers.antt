use Rattle.std.proofs.Common.{add-one}
use Rattle.undo_records.specs.Reading.{op_from}
use Rattle.undo_records.proofs.Loops.{many_grown}
use Rattle.undo_records.proofs.lists.many_ops.Goals as goal

pub loop-preserved : goal.loop-preserved
loop-preserved c =
    rw add-one (many_grown (op_from c.args.version)
    (record { values = c.loop.ops.items; count = c.args.count; counter = c.loop.counter; rest = c.loop.rest.now; whole = _ })
    c.next_op.new.ops.items c.in_ok-after.after.now c.loop-test.true c.in_ok-after.ensures c.loop.invariant)
