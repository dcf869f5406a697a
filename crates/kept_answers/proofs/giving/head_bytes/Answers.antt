use Rattle.std.proofs.Common.{get_or, refl, ap}
use Rattle.kept_answers.proofs.HeadLemmas.{few_bits}
use Rattle.kept_answers.proofs.giving.head_bytes.Goals as goal

pub reply_flags-requires-clause-bits : goal.reply_flags-requires-clause-bits
reply_flags-requires-clause-bits c = rw c.requires.2 (few_bits c.requires.0)

pub returns : goal.returns
returns c = λ k is text.
    let flags = c.reply_flags.ensures k is (ap (λ w. get_or w 0 0) text) (ap (λ w. get_or w 1 0) text) in
    rw (text, c.to_be_bytes.ensures, c.to_be_bytes-2.ensures, flags, c.to_be_bytes-3.ensures, c.additionals.ensures) refl
