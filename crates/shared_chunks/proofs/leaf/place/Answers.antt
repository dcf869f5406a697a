use Rattle.std.proofs.Common.{◌+◌, ℕ, subst}
use Rattle.shared_chunks.specs.Pairs.{IsAt}
use Rattle.shared_chunks.proofs.Between.{Between, all_of, cut, go_left, go_right, stop_at}
use Rattle.shared_chunks.proofs.leaf.place.Goals as goal

pub loop-rest-init : goal.loop-rest-init
loop-rest-init g c = all_of c.args.entries.now c.args.key.now

pub loop-rest-preserved-in-Less : goal.loop-rest-preserved-in-Less
loop-rest-preserved-in-Less g c =
    let e = cut c.loop-rest.rest.now c.split_at.result.0.now c.split_at.result.1.now c.in-Some.behind.now _ c.in-Some.entry.now c.split_at.ensures.front c.split_at.ensures.back c.in-Some.ensures.cases.0 in
    go_left g.met.K.Ord.total c.loop-rest.rest.now c.split_at.result.0.now c.in-Some.entry.now c.in-Some.behind.now e c.args.entries.now c.args.key.now c.loop-rest.low c.requires.order c.in-Less.ensures c.loop-rest.invariant

pub returns-in-Equal-clause-found : goal.returns-in-Equal-clause-found
returns-in-Equal-clause-found g c =
    let e = cut c.loop-rest.rest.now c.split_at.result.0.now c.split_at.result.1.now c.in-Some.behind.now _ c.in-Some.entry.now c.split_at.ensures.front c.split_at.ensures.back c.in-Some.ensures.cases.0 in
    subst (λ (z : ℕ). IsAt g.K.Ord.cmp c.args.entries.now c.args.key.now (c.loop-rest.low + z)) c.split_at.ensures.front_len
    (stop_at g.met.K.Ord.total c.loop-rest.rest.now c.split_at.result.0.now c.in-Some.entry.now c.in-Some.behind.now e c.args.entries.now c.args.key.now c.loop-rest.low c.requires.order c.in-Equal.ensures c.loop-rest.invariant)

pub loop-rest-preserved : goal.loop-rest-preserved
loop-rest-preserved g c =
    let e = cut c.loop-rest.rest.now c.split_at.result.0.now c.split_at.result.1.now c.in-Some.behind.now _ c.in-Some.entry.now c.split_at.ensures.front c.split_at.ensures.back c.in-Some.ensures.cases.0 in
    subst (λ (z : ℕ). Between g.K.Ord.cmp c.args.entries.now c.args.key.now c.in-Some.behind.now (c.loop-rest.low + z + 1)) c.split_at.ensures.front_len
    (go_right g.met.K.Ord.total c.loop-rest.rest.now c.split_at.result.0.now c.in-Some.entry.now c.in-Some.behind.now e c.args.entries.now c.args.key.now c.loop-rest.low c.requires.order c.in-Greater.ensures c.loop-rest.invariant)
