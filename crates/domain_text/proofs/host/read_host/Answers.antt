use Rattle.std.proofs.Common.{sym, ◌∙◌}
use Rattle.domain_text.specs.Host.{IsHost}
use Rattle.domain_text.proofs.Exactly.{exactly}
use Rattle.domain_text.proofs.HostLaws.{host_found, host_only}
use Rattle.domain_text.proofs.host.read_host.Goals as goal

pub returns-clause-cases : goal.returns-clause-cases
returns-clause-cases c = exactly (IsHost c.args.text.now) _ (λ host e. host_found _ host (sym c.host_text.ensures ∙ e)) (λ host is. c.host_text.ensures ∙ host_only _ host is)

pub returns-clause-one : goal.returns-clause-one
returns-clause-one c host is = c.host_text.ensures ∙ host_only _ host is
