use Rattle.std.proofs.Common.{ap, ◌∙◌}
use Rattle.ifa_value.specs.Object.{members}
use Rattle.bit_resolver.specs.Answers.{by_cname}
use Rattle.bit_resolver.specs.Ends.{seen_below}
use Rattle.bit_resolver.proofs.SimpleLemmas.{lone_alias}
use Rattle.bit_resolver.proofs.simple.by_alias.Goals as goal

pub returns : goal.returns
returns c = λ z.
    c.in_ok-by_cname.ensures ∙ ap (λ own. by_cname c.args.kind own c.in-Some-first_name.target) (c.as_slice.ensures ∙ c.in_ok-owner.ensures)
    ∙ lone_alias z (seen_below c.args.name.now) c.args.kind (members c.args.object.now) c.in-Some.elements.now c.in-Some-first_name.target c.in-Some.ensures c.in-Some-first_name.ensures
