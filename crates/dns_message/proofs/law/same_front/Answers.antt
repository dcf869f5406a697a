use Rattle.dns_message.proofs.ReplyLemmas.{Holds-front}
use Rattle.dns_message.proofs.law.same_front.Goals as goal

pub returns : goal.returns
returns c = Holds-front
