use Rattle.std.proofs.Common.{arith}
use Rattle.bit_resolver.proofs.ReplyLaws.{none_dropped, dropped_none, reading_named, reply_within, reply_ends}
use Rattle.bit_resolver.proofs.reply_laws.replies_are_lawful.Goals as goal

pub returns-clause-none : goal.returns-clause-none
returns-clause-none c = λ live z transport. (none_dropped live z transport c.args.message.now, dropped_none live z transport c.args.message.now)

pub returns-clause-within : goal.returns-clause-within
returns-clause-within c = λ live z transport text may.
    reply_within live z transport c.args.message.now text (reading_named c.args.message.now (λ i. omega (arith, c.type_inv.message i))) may

pub returns-clause-ends : goal.returns-clause-ends
returns-clause-ends c = λ live z transport text may. reply_ends live z transport c.args.message.now text may
