use Rattle.std.proofs.Common.{sym, ◌∙◌}
use Rattle.domain_text.specs.Ipv6.{IsIpv6}
use Rattle.domain_text.proofs.Exactly.{exactly}
use Rattle.domain_text.proofs.Ipv6Laws.{ipv6_found, ipv6_only}
use Rattle.domain_text.proofs.ipv6.read_ipv6.Goals as goal

pub returns-clause-cases : goal.returns-clause-cases
returns-clause-cases c = exactly (IsIpv6 c.args.text.now) _ (λ address e. ipv6_found _ address (sym c.address.ensures ∙ e)) (λ address is. c.address.ensures ∙ ipv6_only _ address is)

pub returns-clause-one : goal.returns-clause-one
returns-clause-one c address is = c.address.ensures ∙ ipv6_only _ address is
