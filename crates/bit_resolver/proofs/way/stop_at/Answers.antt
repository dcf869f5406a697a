use Rattle.std.proofs.Common.{drop, sym, ◌∙◌}
use Rattle.bit_resolver.specs.Nodes.{node_at}
use Rattle.bit_resolver.specs.Ends.{seen_below}
use Rattle.bit_resolver.proofs.WayLemmas.{plain_is_free}
use Rattle.bit_resolver.proofs.way.stop_at.Goals as goal

pub returns-then-is_plain-clause-stops : goal.returns-then-is_plain-clause-stops
returns-then-is_plain-clause-stops c live o sound node =
    let here = node_at live o (seen_below c.args.name.now) (drop c.args.left (seen_below c.args.name.now).path) in
    plain_is_free c.args.room.now here (c.is_plain.ensures live here.of sound node c.if-is_plain.true)

pub returns-clause-stops : goal.returns-clause-stops
returns-clause-stops c live o sound node =
    let here = node_at live o (seen_below c.args.name.now) (drop c.args.left (seen_below c.args.name.now).path) in
    c.in_ok-stop.ensures.stops here (record {
      own = sym c.in_ok-node.ensures.own;
      top = sym (c.in_ok-node.ensures.top ∙ c.requires.top);
      of = rw c.in_ok-node.ensures.of node;
    })
