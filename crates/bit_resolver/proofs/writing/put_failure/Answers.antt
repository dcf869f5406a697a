use Rattle.std.proofs.Common.{false, ap, ◌∙◌}
use Rattle.dns_message.specs.Query.{query_of}
use Rattle.dns_message.specs.Replies.{without_records, reply_text}
use Rattle.dns_message.specs.declared.rcode.TheConstants.{SERVFAIL}
use Rattle.bit_resolver.proofs.ReplyLaws.{failure_fits}
use Rattle.bit_resolver.proofs.writing.put_failure.Goals as goal

pub returns-clause-text : goal.returns-clause-text
returns-clause-text c =
    let q = query_of c.args.asked.now in
    c.finish.ensures.text (without_records q) c.new-reply.ensures.holds
    ∙ ap (λ most. reply_text most (without_records q) SERVFAIL false) c.new-reply.ensures.limit
    ∙ failure_fits c.args.limit q c.requires.least c.requires.name
