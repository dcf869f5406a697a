use Rattle.std.proofs.Common.{sym, ◌∙◌}
use Rattle.domain_text.specs.Host.{IsAbsoluteHost}
use Rattle.domain_text.proofs.Exactly.{exactly}
use Rattle.domain_text.proofs.HostLaws.{absolute_found, absolute_only}
use Rattle.domain_text.proofs.host.absolute_name.Goals as goal

pub returns-clause-cases : goal.returns-clause-cases
returns-clause-cases c = exactly (IsAbsoluteHost c.args.text.now) _ (λ name e. absolute_found _ name (sym c.root_name.ensures ∙ e)) (λ name is. c.root_name.ensures ∙ absolute_only _ name is)

pub returns-clause-one : goal.returns-clause-one
returns-clause-one c name is = c.root_name.ensures ∙ absolute_only _ name is
