use Rattle.name_lister.proofs.PieceLemmas.{pinned_of}
use Rattle.name_lister.proofs.slicing.pinned_now.Goals as goal

pub returns-in-Some : goal.returns-in-Some
returns-in-Some c =
    rw c.in-Some.is (pinned_of c.in-Some.mirror.now c.begin.result c.begin.ensures.given c.begin.ensures.text c.begin.ensures.again)
