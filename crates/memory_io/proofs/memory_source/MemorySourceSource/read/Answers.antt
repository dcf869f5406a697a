use Rattle.std.proofs.Common.{◌≡◌, ◌+◌, ◌++◌, min, length, take, drop, rules}
use Rattle.std.proofs.lemmas.List.{drop-drop}
use Rattle.memory_io.proofs.FrontLemmas.{reads_front}
use Rattle.memory_io.proofs.memory_source.MemorySourceSource.read.Goals as goal

pub returns-clause-reads : goal.returns-clause-reads
returns-clause-reads c =
    let items = c.self.inside.bytes.items in
    let at = c.self.inside.at in
    let n = c.copy_front-count.result in
    let count : n ≡ min (length (drop at items)) (length c.args.buf.now) = search rules in
    let copied : c.copy_front-count.new.buffer ≡ take n (drop at items) ++ drop n c.args.buf.now = search rules in
    rw (← c.self.view_is) (reads_front (record { left = drop at items; counts = c.self.inside.counts }) (record { left = drop (at + n) items; counts = c.next_call.new.self })
    c.args.buf.now c.copy_front-count.new.buffer n (record { count = count; copied = copied; rest_is = drop-drop n at items }) (search rules) c.next_call.ensures.later)
