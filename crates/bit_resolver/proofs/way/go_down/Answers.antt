use Rattle.std.proofs.Common.{arith, refl, sym, ◌∙◌, ◌-◌, drop, get_or, []}
use Rattle.import_expand.specs.Sources.{child_of}
use Rattle.bit_resolver.specs.Nodes.{Node, node_at}
use Rattle.bit_resolver.specs.Places.{own_of}
use Rattle.bit_resolver.specs.Ends.{seen_below}
use Rattle.bit_resolver.specs.declared.way.Stop.TheVariants.{Free, Cut, Moved}
use Rattle.bit_resolver.proofs.WayLemmas.{ends_cut, ends_moved, ends_missing, ends_here, next_node, starts, at_node, is_node_by, stops_is}
use Rattle.bit_resolver.proofs.way.go_down.Goals as goal

pub returns-in-Cut-clause-ends : goal.returns-in-Cut-clause-ends
returns-in-Cut-clause-ends g c o at =
    let live = g.N.Names.served c.args.names.now in
    let b = seen_below c.args.name.now in
    let here = node_at live o b (drop c.loop-left.left b.path) in
    let w = c.loop-left.invariant.2 o at in
    let s = stops_is c.loop-left.room here _ (Cut c.in-Cut.node) c.in-Cut.is (c.in_ok-node.ensures.stops live o c.loop-left.invariant.0 w.1) in
    (ends_cut live o b c.loop-left.left here w.0 c.loop-left-test.true s.0, s.1, c.loop-left.invariant.1)

pub returns-in-Moved-clause-ends : goal.returns-in-Moved-clause-ends
returns-in-Moved-clause-ends g c o at =
    let live = g.N.Names.served c.args.names.now in
    let b = seen_below c.args.name.now in
    let here = node_at live o b (drop c.loop-left.left b.path) in
    let w = c.loop-left.invariant.2 o at in
    let s = stops_is c.loop-left.room here _ (Moved c.in-Moved.node c.in-Moved.target) c.in-Moved.is (c.in_ok-node.ensures.stops live o c.loop-left.invariant.0 w.1) in
    (ends_moved live o b c.loop-left.left here c.in-Moved.target w.0 c.loop-left-test.true s.0 s.1, s.2, c.loop-left.invariant.1)

pub returns-then-len-eq0-clause-ends : goal.returns-then-len-eq0-clause-ends
returns-then-len-eq0-clause-ends g c o at =
    let live = g.N.Names.served c.args.names.now in
    let b = seen_below c.args.name.now in
    let next = c.loop-left.left - 1 in
    let here = node_at live o b (drop c.loop-left.left b.path) in
    let w = c.loop-left.invariant.2 o at in
    let s = stops_is c.loop-left.room here _ Free c.in-Free.is (c.in_ok-node.ensures.stops live o c.loop-left.invariant.0 w.1) in
    let below : Node = record { own = own_of b (drop next b.path); top = here.top; of = child_of live here.of (get_or b.path next []) } in
    ends_missing live o b c.loop-left.left next here below w.0 (omega arith) s.0 s.1 refl (sym (c.len.ensures below.of (c.in_ok-of-2.ensures.found here.of w.1)) ∙ c.if-len-eq0.true)

pub loop-left-init : goal.loop-left-init
loop-left-init g c = (
  c.in_ok-of.ensures.later.sound,
  omega arith,
  λ o at.
      let live = g.N.Names.served c.args.names.now in
      let b = seen_below c.args.name.now in
      let on = starts live o b c.len-left.result (node_at live o b []) refl (omega arith) in (
        at_node live o b c.len-left.result (node_at live o b []) on,
        is_node_by c.top.new.self c.in_ok-of.of _ _ on.is_node (c.in_ok-of.ensures.found o at),
      ),
  c.in_ok-of.ensures.later.held,
)

pub loop-left-preserved : goal.loop-left-preserved
loop-left-preserved g c = (
  c.in_ok-of-2.ensures.sound,
  omega (arith, c.loop-left.invariant.1),
  λ o at.
      let live = g.N.Names.served c.args.names.now in
      let b = seen_below c.args.name.now in
      let next = c.loop-left.left - 1 in
      let here = node_at live o b (drop c.loop-left.left b.path) in
      let w = c.loop-left.invariant.2 o at in
      let s = stops_is c.loop-left.room here _ Free c.in-Free.is (c.in_ok-node.ensures.stops live o c.loop-left.invariant.0 w.1) in
      let below : Node = record { own = own_of b (drop next b.path); top = here.top; of = child_of live here.of (get_or b.path next []) } in
      let found = c.in_ok-of-2.ensures.found here.of w.1 in
      let on = next_node live o b c.loop-left.left next here below w.0 (omega arith) s.0 s.1 refl (λ e. c.if-len-eq0.false (c.len.ensures below.of found ∙ e)) in (
        at_node live o b next below on,
        is_node_by c.child_at.new.room c.in_ok-of-2.of below _ on.is_node found,
      ),
  omega (arith, c.loop-left.invariant.3, c.in_ok-of-2.ensures.held),
)

pub returns-clause-ends : goal.returns-clause-ends
returns-clause-ends g c o at =
    let live = g.N.Names.served c.args.names.now in
    let b = seen_below c.args.name.now in
    let here = node_at live o b (drop c.loop-left.left b.path) in
    let w = c.loop-left.invariant.2 o at in
    let e = ends_here live o b c.loop-left.left here w.0 (omega arith) in (
      e.0,
      record {
        own = sym c.in_ok-node-2.ensures.own;
        top = sym (c.in_ok-node-2.ensures.top ∙ c.requires.top);
        of = rw c.in_ok-node-2.ensures.of (is_node_by c.loop-left.room c.loop-left.of here _ e.1 w.1);
      },
    )
