use Rattle.std.proofs.Common.{ap, ap₂, ◌∙◌, ◌++◌}
use Rattle.std.specs.List.{flat_map}
use Rattle.domain_text.specs.Host.{host_name}
use Rattle.ifa_value.specs.Elements.{alone, elements_of}
use Rattle.ifa_value.specs.Object.{members}
use Rattle.bit_resolver.specs.Answers.{done, records_of}
use Rattle.bit_resolver.specs.Nodes.{type_of}
use Rattle.bit_resolver.specs.Places.{top_of}
use Rattle.bit_resolver.specs.Rdata.{rdata_of}
use Rattle.bit_resolver.specs.Ends.{seen_below}
use Rattle.bit_resolver.proofs.SimpleLemmas.{lone_records}
use Rattle.bit_resolver.proofs.simple.by_records.Goals as goal

pub returns : goal.returns
returns c =
    let b = seen_below c.args.name.now in
    let o = members c.args.object.now in
    let at = host_name (top_of b) (top_of b) in
    ap done c.in_ok-or_no_data.ensures
    ∙ lone_records c.args.zone.now b c.args.kind c.in-Some.key o c.add_item.new.into.items c.requires.alias c.in-Some.ensures
    (c.in_ok-add_item.ensures c.if-not-branch.false at ∙ ap₂ (λ before own. before ++ records_of own (type_of c.in-Some.key) (flat_map (λ e. alone (rdata_of at e)) (elements_of c.in-Some.key o))) c.new-found.ensures.items (c.as_slice.ensures ∙ c.in_ok-owner.ensures))
