use Rattle.std.proofs.Common.{◌∙◌}
use Rattle.domain_text.proofs.Ipv6Laws.{all_few}
use Rattle.domain_text.proofs.ipv6.groups.Goals as goal

pub returns-in-None : goal.returns-in-None
returns-in-None c = all_few c.loop-rest.found c.loop-rest.invariant.few ∙ (rw c.in-None.is at c.loop-rest.invariant.read)
