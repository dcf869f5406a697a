use Rattle.dns_message.proofs.ReplyLaws.{reply_headed}
use Rattle.dns_message.proofs.law.replies_are_headed.Goals as goal

pub returns : goal.returns
returns c = reply_headed
