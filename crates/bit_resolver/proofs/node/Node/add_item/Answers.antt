use Rattle.std.proofs.Common.{ap, ◌∙◌}
use Rattle.import_expand.specs.Sources.{elements_if_some}
use Rattle.bit_resolver.proofs.AnswerForms.{added_at}
use Rattle.bit_resolver.proofs.node.Node.add_item.Goals as goal

pub returns-in_ok-add_elements-in-None-made : goal.returns-in_ok-add_elements-in-None-made
returns-in_ok-add_elements-in-None-made c n shows =
    added_at c.args.key n c.args.self.now.own c.args.self.now.top.now c.type_of-in-None-made.result c.as_slice.result.now c.args.into.now.items _ shows.own shows.top c.type_of-in-None-made.ensures
    (c.as_slice.ensures ∙ c.in_ok-elements-in-None-made.ensures ∙ ap (elements_if_some c.args.key) (c.in-Some.ensures n.of shows.of)) c.in_ok-add_elements-in-None-made.ensures
