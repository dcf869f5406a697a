use Rattle.bit_resolver.proofs.ReplyLaws.{answer_headed}
use Rattle.bit_resolver.proofs.reply_laws.truncated_replies_are_headed.Goals as goal

pub returns : goal.returns
returns c = answer_headed
