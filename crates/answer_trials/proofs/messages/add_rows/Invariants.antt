use Rattle.std.proofs.Common.{◌≡◌}
use Rattle.dns_message.specs.Replies.{Contents}
use Rattle.dns_message.specs.Holding.{Holds, MayAdd}
use Rattle.answer_trials.proofs.messages.add_rows.Given as goal

abbrev pub invariant-loop-row : goal.invariant-loop-row
invariant-loop-row l = ((t : Contents) × Holds t l.reply l.buf × MayAdd l.section t) × (l.reply.limit ≡ l.initial.reply.limit)
