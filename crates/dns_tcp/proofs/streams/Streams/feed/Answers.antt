use Rattle.std.proofs.Common.{sym, subst, arith}
use Rattle.dns_tcp.specs.Streams.{IsWaiting}
use Rattle.dns_tcp.specs.Held.{streams_of}
use Rattle.dns_tcp.proofs.BufferLemmas.{partial_is_short}
use Rattle.dns_tcp.proofs.StreamLemmas.{stands, not_held}
use Rattle.dns_tcp.proofs.HeldLemmas.{waiting-at, fed-at, fed-new, distinct-at, distinct-new, may_hold-at, may_not_hold}
use Rattle.dns_tcp.proofs.streams.Streams.feed.Goals as goal

pub append-requires : goal.append-requires
append-requires c =
    let held = c.self.inside.held.items in
    let place = stands c.args.client held c.deref.result.now c.in-Some.at c.index_mut.result.now c.deref.ensures.value c.in-Some.ensures c.index_mut.ensures.value in
    let waiting : IsWaiting c.args.client (streams_of held) = subst (IsWaiting c.args.client) (sym c.self.view_is) c.requires.waiting in
    omega (arith, c.requires.piece, partial_is_short c.index_mut.result.now.buffer.left (waiting-at c.args.client held c.in-Some.at c.index_mut.result.now place waiting))

pub invariant_of-self : goal.invariant_of-self
invariant_of-self c =
    let held = c.self.inside.held.items in
    let place = stands c.args.client held c.deref.result.now c.in-Some.at c.index_mut.result.now c.deref.ensures.value c.in-Some.ensures c.index_mut.ensures.value in
    let kept = c.self.invariant in
    (kept.0, kept.1, kept.2, distinct-at c.args.client held c.in-Some.at c.index_mut.result.now c.append.new.self place kept.3)

pub returns-in-Some-clause-answer : goal.returns-in-Some-clause-answer
returns-in-Some-clause-answer c =
    let held = c.self.inside.held.items in
    let place = stands c.args.client held c.deref.result.now c.in-Some.at c.index_mut.result.now c.deref.ensures.value c.in-Some.ensures c.index_mut.ensures.value in
    rw (← c.self.view_is) (may_hold-at c.args.client held c.in-Some.at c.index_mut.result.now place)

pub returns-in-Some-clause-fed : goal.returns-in-Some-clause-fed
returns-in-Some-clause-fed c =
    let held = c.self.inside.held.items in
    let place = stands c.args.client held c.deref.result.now c.in-Some.at c.index_mut.result.now c.deref.ensures.value c.in-Some.ensures c.index_mut.ensures.value in
    rw (c.append.ensures, ← c.self.view_is) (fed-at c.args.client held c.in-Some.at c.index_mut.result.now c.args.piece.now place)

pub invariant_of-self-in-Some-pop : goal.invariant_of-self-in-Some-pop
invariant_of-self-in-Some-pop c =
    let held = c.self.inside.held.items in
    let kept = c.self.invariant in (
      omega (arith, kept.0, c.in-Some-pop.ensures.cases, c.push.ensures.len),
      omega (arith, kept.1, c.push.ensures.capacity),
      omega (arith, kept.2, c.pop.ensures.capacity),
      rw (c.push.ensures.items, c.newcomer.ensures) (distinct-new c.args.client held _ (not_held c.args.client held c.deref.result.now c.deref.ensures.value c.in-None.ensures) kept.3),
    )

pub returns-in-Some-pop-clause-fed : goal.returns-in-Some-pop-clause-fed
returns-in-Some-pop-clause-fed c =
    let held = c.self.inside.held.items in
    rw (c.push.ensures.items, c.newcomer.ensures, ← c.self.view_is) (fed-new c.args.client held _ (not_held c.args.client held c.deref.result.now c.deref.ensures.value c.in-None.ensures))

pub returns-in-None-pop-clause-answer : goal.returns-in-None-pop-clause-answer
returns-in-None-pop-clause-answer c =
    let held = c.self.inside.held.items in
    rw (← c.self.view_is) (may_not_hold c.args.client held (not_held c.args.client held c.deref.result.now c.deref.ensures.value c.in-None.ensures) (omega (arith, c.self.invariant.0, c.in-None-pop.ensures.cases)))
