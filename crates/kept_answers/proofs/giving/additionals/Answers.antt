use Rattle.std.proofs.Common.{ap, sym}
use Rattle.dns_message.specs.Edns.{additionals_of_reply}
use Rattle.kept_answers.proofs.giving.additionals.Goals as goal

pub returns-in-Some : goal.returns-in-Some
returns-in-Some c = ap additionals_of_reply (sym c.in-Some.is)
