use Rattle.std.proofs.Common.{ap, ◌∙◌}
use Rattle.std.specs.Option.{option_and_then}
use Rattle.import_expand.specs.Sources.{elements_if_some}
use Rattle.bit_resolver.specs.Nodes.{first, host_in}
use Rattle.bit_resolver.proofs.node.Node.target.Goals as goal

pub returns-in-Some-made : goal.returns-in-Some-made
returns-in-Some-made c n shows =
    c.target_in.ensures n shows.own shows.top ∙ ap (λ es. option_and_then (host_in n) (first es)) (c.in-Some-made.ensures ∙ ap (elements_if_some c.args.key) (c.in-Some.ensures n.of shows.of))

pub returns-in_ok-elements-in-None-made : goal.returns-in_ok-elements-in-None-made
returns-in_ok-elements-in-None-made c n shows =
    c.target_in-in-None-made.ensures n shows.own shows.top
    ∙ ap (λ es. option_and_then (host_in n) (first es)) (c.as_slice.ensures ∙ c.in_ok-elements-in-None-made.ensures ∙ ap (elements_if_some c.args.key) (c.in-Some.ensures n.of shows.of))
