use Rattle.shared_chunks.proofs.Found.{at_set_there, gap_set_there}
use Rattle.shared_chunks.proofs.leaf.put.Goals as goal

pub returns-in-Ok-clause-ok : goal.returns-in-Ok-clause-ok
returns-in-Ok-clause-ok g c =
    at_set_there c.as_slice.result.now c.args.entries.now.items c.key.result.now c.args.entry.0 c.as_slice.ensures.value c.key.ensures c.in-Ok.at c.args.entry.1 c.in-Ok.ensures.found

pub returns-in_ok-insert-in-Err-clause-ok : goal.returns-in_ok-insert-in-Err-clause-ok
returns-in_ok-insert-in-Err-clause-ok g c =
    gap_set_there c.as_slice.result.now c.args.entries.now.items c.key.result.now c.args.entry.0 c.as_slice.ensures.value c.key.ensures c.in-Err.at c.args.entry.1 _ c.in-Err.ensures.absent c.in_ok-insert-in-Err.ensures.items
