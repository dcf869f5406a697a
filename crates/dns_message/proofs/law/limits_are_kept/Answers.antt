use Rattle.dns_message.proofs.ReplyLaws.{limit_between, most_fits, limit_without_opt}
use Rattle.dns_message.proofs.law.limits_are_kept.Goals as goal

pub returns-clause-least : goal.returns-clause-least
returns-clause-least c = λ transport q. (limit_between transport q).0

pub returns-clause-most : goal.returns-clause-most
returns-clause-most c = λ transport q. (limit_between transport q).1

pub returns-clause-greatest : goal.returns-clause-greatest
returns-clause-greatest c = most_fits

pub returns-clause-without_opt : goal.returns-clause-without_opt
returns-clause-without_opt c = limit_without_opt
