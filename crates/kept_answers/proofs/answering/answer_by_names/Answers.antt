use Rattle.std.proofs.Common.{subst}
use Rattle.bit_resolver.specs.Replies.{told, MayReply}
use Rattle.kept_answers.proofs.answering.answer_by_names.Goals as goal

pub returns-clause-reply : goal.returns-clause-reply
returns-clause-reply g c =
    subst (λ zone. MayReply (g.N.Names.served c.args.names.now) zone c.args.transport c.args.message.now (told c.answer.result c.answer.new.buffer)) c.zone_of-zone.ensures c.answer.ensures.reply
