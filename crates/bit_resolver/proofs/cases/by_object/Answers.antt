use Rattle.std.proofs.Common.{sym, ap, ◌∙◌, drop}
use Rattle.bit_resolver.specs.Nodes.{node_at}
use Rattle.bit_resolver.specs.Answers.{done, by_way, referral}
use Rattle.bit_resolver.specs.Ends.{seen_below}
use Rattle.bit_resolver.specs.declared.way.Walk.TheVariants.{Arrived, Cut}
use Rattle.bit_resolver.proofs.WayLemmas.{ends_is}
use Rattle.bit_resolver.proofs.cases.by_object.Goals as goal

pub returns-in_ok-servers-in-Cut-clause-asked : goal.returns-in_ok-servers-in-Cut-clause-asked
returns-in_ok-servers-in-Cut-clause-asked g c o at =
    let live = g.N.Names.served c.args.names.now in
    let b = seen_below c.args.name.now in
    let e = ends_is live c.go_down.new.room b o c.in_ok-go_down.field-0 (Cut c.in-Cut.node c.in-Cut.field-1) c.in-Cut.is (c.in_ok-go_down.ensures.ends o at) in
    ap done (c.referral.ensures ∙ ap referral (c.in_ok-servers-in-Cut.ensures (node_at live o b (drop c.in-Cut.field-1 b.path)) e.1)) ∙ sym (ap (by_way live c.args.zone.now b o c.args.kind) e.0)

pub returns-in_ok-asked-in-Arrived-clause-asked : goal.returns-in_ok-asked-in-Arrived-clause-asked
returns-in_ok-asked-in-Arrived-clause-asked g c o at =
    let live = g.N.Names.served c.args.names.now in
    let b = seen_below c.args.name.now in
    let e = ends_is live c.go_down.new.room b o c.in_ok-go_down.field-0 (Arrived c.in-Arrived.node) c.in-Arrived.is (c.in_ok-go_down.ensures.ends o at) in
    c.in_ok-asked-in-Arrived.ensures (node_at live o b b.path) e.1 ∙ sym (ap (by_way live c.args.zone.now b o c.args.kind) e.0)
