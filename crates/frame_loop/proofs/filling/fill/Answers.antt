use Rattle.std.proofs.Common.{arith}
use Rattle.frame_loop.proofs.FillingLemmas.{part_is_short}
use Rattle.frame_loop.proofs.filling.fill.Goals as goal

pub feed-requires-clause-room : goal.feed-requires-clause-room
feed-requires-clause-room g c =
    omega (arith, part_is_short c.args.frames.now.kinds c.args.frames.now.left c.requires.answered, c.requires.most, c.split_at.ensures.front_len)
