use Rattle.std.proofs.Common.{◌∙◌, false}
use Rattle.dns_message.specs.Replies.{without_records}
use Rattle.dns_message.specs.declared.rcode.TheConstants.{BADVERS}
use Rattle.dns_message.proofs.FinishLemmas.{finished_without_records}
use Rattle.dns_message.proofs.reply.Reply.bad_version.Goals as goal

pub returns-clause-text : goal.returns-clause-text
returns-clause-text c = λ q h.
    c.finish.ensures.text (without_records q) h ∙ finished_without_records q c.args.self c.args.buf.now BADVERS false h
