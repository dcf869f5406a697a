use Rattle.std.proofs.Common.{◌≡◌, refl, ◌∙◌}
use Rattle.std.proofs.lemmas.List.{get_or-set_same}
use Rattle.dns_tcp.proofs.StreamLemmas.{stands, not_held, within}
use Rattle.dns_tcp.proofs.HeldLemmas.{with_bytes, takes, stays, waits_for_none, distinct-at}
use Rattle.dns_tcp.proofs.streams.Streams.next.Goals as goal

pub returns-in_err-at : goal.returns-in_err-at
returns-in_err-at c =
    let held = c.self.inside.held.items in
    let none = not_held c.args.client held c.deref.result.now c.deref.ensures.value c.in_err-at.ensures in
    rw (c.from_residual.ensures, ← c.self.view_is) ((refl, λ _. tt, waits_for_none c.args.client held none), record { ends = tt })

pub returns-in_err-count : goal.returns-in_err-count
returns-in_err-count c =
    let held = c.self.inside.held.items in
    let place = stands c.args.client held c.deref.result.now c.in_ok-at.at c.index_mut.result.now c.deref.ensures.value c.in_ok-at.ensures c.index_mut.ensures.value in
    rw (c.from_residual-in_err-count.ensures, ← c.self.view_is) ((refl, λ _. tt, stays c.args.client held c.in_ok-at.at c.index_mut.result.now c.next.new.self place c.in_err-count.ensures), record { ends = tt })

pub invariant_of-self-2 : goal.invariant_of-self-2
invariant_of-self-2 c =
    let held = c.self.inside.held.items in
    let place = stands c.args.client held c.deref.result.now c.in_ok-at.at c.index_mut.result.now c.deref.ensures.value c.in_ok-at.ensures c.index_mut.ensures.value in
    let kept = c.self.invariant in
    (kept.0, kept.1, kept.2, distinct-at c.args.client held c.in_ok-at.at c.index_mut.result.now c.next.new.self place kept.3)

pub returns : goal.returns
returns c =
    let held = c.self.inside.held.items in
    let place = stands c.args.client held c.deref.result.now c.in_ok-at.at c.index_mut.result.now c.deref.ensures.value c.in_ok-at.ensures c.index_mut.ensures.value in
    let one = with_bytes c.index_mut.result.now c.next.new.self in
    let there : c.index.result.now ≡ one = c.index.ensures ∙ get_or-set_same held c.in_ok-at.at one c.index.result.now (within c.args.client held c.in_ok-at.at c.index_mut.result.now place) in
    rw (← c.self.view_is)
    ((refl, λ _. tt, takes c.args.client held c.in_ok-at.at c.index_mut.result.now c.next.new.self c.in_ok-count.count c.last.result.now place c.in_ok-count.ensures (rw there at c.last.ensures)), record { ends = tt })
