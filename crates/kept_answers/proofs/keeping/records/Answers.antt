use Rattle.std.proofs.Common.{refl, arith}
use Rattle.dns_message.specs.Query.{query_of}
use Rattle.kept_answers.proofs.ReplyLemmas.{records_of}
use Rattle.kept_answers.proofs.keeping.records.Goals as goal

pub returns : goal.returns
returns c = λ k is. records_of (query_of c.args.asked.now) k c.args.reply.now _ _ is refl (omega (arith, c.opt_size.ensures))
