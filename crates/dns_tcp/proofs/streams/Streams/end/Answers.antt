use Rattle.std.proofs.Common.{sym, ap, ◌∙◌, arith}
use Rattle.dns_tcp.specs.Streams.{left_of}
use Rattle.dns_tcp.specs.Held.{streams_of}
use Rattle.dns_tcp.proofs.StreamLemmas.{stands, not_held, without-at, without-none, left_of-without}
use Rattle.dns_tcp.proofs.HeldLemmas.{distinct-removed}
use Rattle.dns_tcp.proofs.streams.Streams.end.Goals as goal

pub invariant_of-self : goal.invariant_of-self
invariant_of-self c =
    let held = c.self.inside.held.items in
    let place = stands c.args.client held c.deref.result.now c.in-Some.at c.remove-buffer.result c.deref.ensures.value c.in-Some.ensures c.remove-buffer.ensures.value in
    let kept = c.self.invariant in (
      omega (arith, kept.0, c.remove-buffer.ensures.len, c.push.ensures.len),
      omega (arith, kept.1, c.remove-buffer.ensures.capacity),
      omega (arith, kept.2, c.push.ensures.capacity),
      rw c.remove-buffer.ensures.items (distinct-removed c.args.client held c.in-Some.at c.remove-buffer.result place kept.3),
    )

pub returns-in-Some : goal.returns-in-Some
returns-in-Some c =
    let held = c.self.inside.held.items in
    let place = stands c.args.client held c.deref.result.now c.in-Some.at c.remove-buffer.result c.deref.ensures.value c.in-Some.ensures c.remove-buffer.ensures.value in
    let now = without-at c.args.client held c.in-Some.at c.remove-buffer.result place in
    rw (c.remove-buffer.ensures.items, ← c.self.view_is)
    (record { now = sym now; forgotten = ap (left_of c.args.client) (sym now) ∙ left_of-without c.args.client (streams_of held) c.self.invariant.3 })

pub returns-in_default : goal.returns-in_default
returns-in_default c =
    let held = c.self.inside.held.items in
    let none = not_held c.args.client held c.deref.result.now c.deref.ensures.value c.in_default.ensures in
    rw (← c.self.view_is) (record { now = sym (without-none c.args.client (streams_of held) none); forgotten = none })
