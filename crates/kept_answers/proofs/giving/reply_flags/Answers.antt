use Rattle.std.proofs.Common.{◌∙◌}
use Rattle.kept_answers.proofs.HeadLemmas.{flags_written}
use Rattle.kept_answers.proofs.giving.reply_flags.Goals as goal

pub returns : goal.returns
returns c = λ k is bits rcode. flags_written c.args.flags _ _ k is (c.from.ensures ∙ bits) (c.from-2.ensures ∙ rcode)
