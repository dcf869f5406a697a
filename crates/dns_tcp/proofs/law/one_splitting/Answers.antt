use Rattle.dns_tcp.proofs.MessageLemmas.{one_splitting}
use Rattle.dns_tcp.proofs.FrontLemmas.{has_splitting}
use Rattle.dns_tcp.proofs.law.one_splitting.Goals as goal

pub returns-clause-one_at_most : goal.returns-clause-one_at_most
returns-clause-one_at_most c = λ bytes messages others rest left s r-is t l-is.
    let same = one_splitting bytes messages others rest left s r-is t l-is in
    (same.messages_are, same.rest_is)

pub returns-clause-one_at_least : goal.returns-clause-one_at_least
returns-clause-one_at_least c = has_splitting
