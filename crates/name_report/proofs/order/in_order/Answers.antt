use Rattle.std.proofs.Common.{◌≡◌, sym, subst, add-one}
use Rattle.std.specs.BTreeSet.{insert_key}
use Rattle.std.specs.Map.{keys_of}
use Rattle.std.specs.List.Sorted.{IsStrictlySortedBy}
use Rattle.name_report.proofs.OrderLemmas.{by_bytes, walk_more, walk_ends}
use Rattle.name_report.proofs.order.in_order.Goals as goal

pub returns-in-None : goal.returns-in-None
returns-in-None g c = walk_ends (keys_of c.args.names.now) c.loop-i.i c.loop-i.listed.keys c.loop-i.invariant (sym c.in-None.ensures.name)

pub loop-i-preserved : goal.loop-i-preserved
loop-i-preserved g c =
    let names = keys_of c.args.names.now in
    let listed = c.loop-i.listed.keys in
    let more : c.insert.new.self.keys ≡ insert_key by_bytes listed c.in-Some.name = c.in_ok-insert-in-Some.ensures.keys in
    rw (add-one, more)
    (walk_more names c.loop-i.i listed c.in-Some.name c.loop-i.invariant (sym c.in-Some.ensures.name)
    (subst (IsStrictlySortedBy by_bytes) more c.insert.ensures.ordered))
