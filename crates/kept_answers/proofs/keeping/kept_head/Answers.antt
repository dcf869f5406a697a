use Rattle.std.proofs.Common.{refl}
use Rattle.kept_answers.proofs.HeadLemmas.{bits_read, rcode_read, same_head}
use Rattle.kept_answers.proofs.keeping.kept_head.Goals as goal

pub returns : goal.returns
returns c = λ q k rest is text. rw text (same_head k _ _ (bits_read q.flags k _ refl) (rcode_read q.flags k _ is refl))
