use Rattle.dns_message.specs.Query.{query_of}
use Rattle.bit_resolver.proofs.writing.put_bad_version.Goals as goal

pub returns-clause-text : goal.returns-clause-text
returns-clause-text c = c.bad_version.ensures.text (query_of c.args.asked.now) c.new-reply.ensures.holds
